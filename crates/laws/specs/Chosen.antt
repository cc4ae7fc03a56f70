-- Elements chosen by a label each: a class, a distance. And what a loop leaves that moves them to the front of a buffer.
-- docs/RULES.md, 'Sets of classes'.
-- Assumes nothing.
use Rattle.std.specs.Prelude.{ℕ, Bool, List, [], ◌∷◌, ◌≡◌, length, take}
use Rattle.laws.specs.Refusal.{choose}

-- the elements whose label passes, in their order
abbrev pub chosen_by : {A L : Type 0} → (L → Bool) → List A → List L → List A
chosen_by p [] labels = []
chosen_by p (x ∷ xs) [] = []
chosen_by p (x ∷ xs) (l ∷ labels) = choose (p l) (x ∷ chosen_by p xs labels) (chosen_by p xs labels)

-- the first n of a buffer are the elements of a list, all of them
pub record Front {A : Type 0} (l out : List A) (n : ℕ) : Type 0 where
  pub counted : n ≡ length l
  pub front : take n out ≡ l
