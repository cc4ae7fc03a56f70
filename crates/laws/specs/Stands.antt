-- What it is for a binary64 to stand for a whole number over a power of two, and a whole-number sum over a list.
-- docs/RULES.md, 'Fits and score'.
-- Assumes nothing.
use Rattle.std.specs.Prelude.{ℕ, ◌^◌, ◌≤◌, List, [], ◌∷◌, T, ℤ, pos, nat_abs, ◌+ℤ◌, Float}
use Rattle.std.specs.Float.{binary64}
use Rattle.std.specs.Float.Ieee.{fits}
use Rattle.std.specs.Float.Ieee.Exact.{HasValue}
use Rattle.laws.specs.Signed.{negative}

-- up to here every whole number is a binary64
abbrev pub whole_limit : ℕ
whole_limit = 2 ^ 53

-- the least binary64 above 0 is 1 / 2 ^ 1074
abbrev pub least_power : ℕ
least_power = 1074

-- x is a binary64 of the value z / 2 ^ s; nought has no sign, so what stands for it is +0
pub record Stands (s : ℕ) (z : ℤ) (x : Float) : Type 0 where
  pub held : T (fits binary64 x)
  pub value : HasValue x (negative z) (nat_abs z) (2 ^ s)

-- and the magnitude of z is at most B
pub record Bounded (s B : ℕ) (z : ℤ) (x : Float) : Type 0 where
  pub stands : Stands s z x
  pub within : nat_abs z ≤ B

-- the whole numbers of a list's elements, added
abbrev pub sum_of : {A : Type 0} → (A → ℤ) → List A → ℤ
sum_of whole [] = pos 0
sum_of whole (x ∷ xs) = whole x +ℤ sum_of whole xs

-- what holds of each element of a list
abbrev pub Each : {A : Type 0} → (A → Type 0) → List A → Type 0
Each P [] = Unit
Each P (x ∷ xs) = P x × Each P xs
