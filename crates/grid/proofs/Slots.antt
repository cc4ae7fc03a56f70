-- Every slot that a type carries is one of six, and it carries at most six.
-- Assumes nothing.
use Prim.Native.Nat.{ℕ, zero, suc, ◌≤◌, ◌<◌}
use mathlib.Core.Bool.{Bool, true, false}
use mathlib.Core.List.{List, [], ◌∷◌}
use lib.Dec.{eqb, lit<, lit≤}
use lib.ListN.{length, get_or}
use Rattle.laws.specs.Refusal.{choose}
use Rattle.grid.specs.Slots.{slots_of}

-- what holds of both outcomes of a test
pub chosen : {A : Type 0} (P : A → Type 0) (b : Bool) (x y : A) → P x → P y → P (choose b x y)
chosen P true x y p q = p
chosen P false x y p q = q

-- a fact of the slots of each type is one of `slots_of`
pub by-type : (P : List ℕ → Type 0) → P [] → P (0 ∷ 1 ∷ []) → P (2 ∷ 3 ∷ 0 ∷ 1 ∷ []) → P (2 ∷ 3 ∷ 4 ∷ 5 ∷ 0 ∷ 1 ∷ []) → (gm_type : ℕ) → P (slots_of gm_type)
by-type P i t r a gm_type =
    chosen P (eqb gm_type 0) [] _ i (chosen P (eqb gm_type 1) (0 ∷ 1 ∷ []) _ t (chosen P (eqb gm_type 2) (2 ∷ 3 ∷ 0 ∷ 1 ∷ []) (2 ∷ 3 ∷ 4 ∷ 5 ∷ 0 ∷ 1 ∷ []) r a))

-- each of a list is below 6
abbrev pub Known : List ℕ → Type 0
Known [] = Unit {0}
Known (s ∷ ss) = (s < 6) × Known ss

pub slots-known : (gm_type : ℕ) → Known (slots_of gm_type)
slots-known =
    by-type Known tt (lit< tt, (lit< tt, tt)) (lit< tt, (lit< tt, (lit< tt, (lit< tt, tt))))
    (lit< tt, (lit< tt, (lit< tt, (lit< tt, (lit< tt, (lit< tt, tt))))))

pub known_at : (ss : List ℕ) (i : ℕ) → Known ss → get_or ss i 0 < 6
known_at [] i k = lit< tt
known_at (s ∷ ss) zero k = k.0
known_at (s ∷ ss) (suc i) k = known_at ss i k.1

pub six-slots-at-most : (gm_type : ℕ) → length (slots_of gm_type) ≤ 6
six-slots-at-most = by-type (λ ss. length ss ≤ 6) (lit≤ tt) (lit≤ tt) (lit≤ tt) (lit≤ tt)
