-- A signed number as a sign and a magnitude: the parts, products, and the distance of two.
-- Assumes nothing.
use Prim.Native.Nat.{ℕ, zero, suc, ◌+◌, ◌*◌, ◌-◌}
use mathlib.Core.Bool.{Bool, true, false, not}
use mathlib.Core.Path.{◌≡◌, refl, sym, ap, ◌∙◌}
use native.Mathlib.Nat.{zero-mul}
use native.Mathlib.Omega.{arith}
use lib.IntN.{ℤ, pos, negsuc, neg_ℤ, nat_abs, ◌+ℤ◌, ◌-ℤ◌, ◌*ℤ◌, neg_ℤ-+ℤ, neg_ℤ-neg_ℤ}
use lib.Signed.{lt_z}
use borrow.Author.Tests.{le-ltb}
use Rattle.laws.proofs.Signed.{nat_abs-subℕ, nat_abs-neg}
use Rattle.grid.specs.Grid.{negative, signed}

-- the distance of two naturals
abbrev pub apart : ℕ → ℕ → ℕ
apart a b = (a - b) + (b - a)

pub signed_parts : (z : ℤ) → signed (negative z) (nat_abs z) ≡ z
signed_parts (pos n) = refl
signed_parts (negsuc n) = refl

pub nat_abs-signed : (s : Bool) (n : ℕ) → nat_abs (signed s n) ≡ n
nat_abs-signed true n = nat_abs-neg (pos n)
nat_abs-signed false n = refl

pub signed-times : (s : Bool) (j d : ℕ) → signed s j *ℤ pos d ≡ signed s (j * d)
signed-times true zero d = rw (zero-mul d)
signed-times true (suc j) d = refl
signed-times false j d = refl

-- two magnitudes of one sign, and of two
pub apart_of : (m n : ℕ) → nat_abs (pos m -ℤ pos n) ≡ apart m n
apart_of m zero = omega arith
apart_of m (suc n) = nat_abs-subℕ m (suc n)

pub same-side : (s : Bool) (m n : ℕ) → nat_abs (signed s m -ℤ signed s n) ≡ apart m n
same-side true m n = ap nat_abs (sym (neg_ℤ-+ℤ (pos m) (neg_ℤ (pos n)))) ∙ nat_abs-neg (pos m -ℤ pos n) ∙ apart_of m n
same-side false m n = apart_of m n

pub other-side : (s : Bool) (m n : ℕ) → nat_abs (signed s m -ℤ signed (not s) n) ≡ m + n
other-side true m n = ap nat_abs (sym (neg_ℤ-+ℤ (pos m) (pos n))) ∙ nat_abs-neg (pos (m + n))
other-side false m n = ap (λ (t : ℤ). nat_abs (pos m +ℤ t)) (neg_ℤ-neg_ℤ (pos n))

pub negative-signed : (s : Bool) (n : ℕ) → neg_ℤ (signed s n) ≡ signed (not s) n
negative-signed true n = neg_ℤ-neg_ℤ (pos n)
negative-signed false n = refl

-- the sign stays over a map of magnitudes that keeps 0
pub keep-sign : (f : ℕ → ℕ) → f 0 ≡ 0 → (s : Bool) (n : ℕ) → signed (negative (signed s n)) (f (nat_abs (signed s n))) ≡ signed s (f n)
keep-sign f h true zero = rw h
keep-sign f h true (suc n) = refl
keep-sign f h false n = refl

-- the code's test of a sign
pub negative-test : (z : ℤ) → lt_z z (pos 0) ≡ negative z
negative-test (pos n) = le-ltb n 0 (omega arith)
negative-test (negsuc n) = refl
