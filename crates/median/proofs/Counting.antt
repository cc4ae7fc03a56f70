-- Whether each number of a list is finite, as the chain of an iterator says it.
-- Assumes nothing.
use Rattle.std.proofs.Common.{◌≡◌, true, false, ◌&&◌, List, [], ◌∷◌, refl}
use Rattle.laws.specs.Refusal.{both}
use Rattle.std.specs.List.{list_all}
use Rattle.std.specs.Float.{float_is_finite}
use lib.Ieee.{Float, nan, inf, fin}
use lib.Ieee.Scale.{finite}
use Rattle.median.specs.Median.{all_finite}

same : (x : Float) → float_is_finite x ≡ finite x
unfolding float_is_finite
same nan = refl
same (inf s) = refl
same (fin s m e) = refl

pub finite-all : (xs : List Float) → list_all float_is_finite xs ≡ all_finite xs
finite-all [] = refl
finite-all (x ∷ xs) = rw same (elim (finite x) as (λ b. (b && list_all float_is_finite xs) ≡ both b (all_finite xs)) [ true ↦ finite-all xs | false ↦ refl ])
