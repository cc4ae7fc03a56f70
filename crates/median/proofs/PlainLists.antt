-- Lists of plain numbers: those read from the elements of a list, each without sign, once they have turned out to be finite.
-- Assumes nothing.
use mathlib.Core.Bool.{true, false, false≢true}
use mathlib.Core.List.{List, [], ◌∷◌, map}
use mathlib.Core.Logic.{⊎_elim}
use mathlib.Core.Path.{◌≡◌}
use lib.Dec.{T}
use lib.Ieee.{Float, binary64, fits}
use lib.Ieee.Scale.{finite}
use Rattle.laws.specs.Stands.{Each}
use Rattle.laws.proofs.Cases.{outcome}
use Rattle.median.specs.Median.{all_finite}
use Rattle.median.specs.Inner.{Plain, unsigned}

pub each-mapped : {A : Type 0} (f : A → Float) (P : Float → Type 0) → ((w : A) → P (f w)) → (ws : List A) → Each P (map f ws)
each-mapped f P h [] = tt
each-mapped f P h (w ∷ ws) = (h w, each-mapped f P h ws)

pub each-plain : (xs : List Float) → Each (λ x. T (fits binary64 x) × (unsigned x ≡ true)) xs → all_finite xs ≡ true → Each Plain xs
each-plain [] e t = tt
each-plain (x ∷ xs) e t =
    ⊎_elim
    (λ (f : finite x ≡ true). (record { held = e.0.0; bare = e.0.1; ends = f }, each-plain xs e.1 (rw f at t)))
    (λ (f : finite x ≡ false). absurd (false≢true (rw f at t)))
    (outcome (finite x))
