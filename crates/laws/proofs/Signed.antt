-- Signed numbers by their magnitudes, which omega reads: a difference of naturals, magnitudes of sums, what fits a width.
-- Assumes nothing.
use Prim.Native.Nat.{ℕ, zero, suc, ◌+◌, ◌-◌, ◌^◌, ◌≤◌, ◌<◌}
use mathlib.Core.Path.{◌≡◌, refl, sym, ap, ◌∙◌}
use native.Mathlib.Nat.{le_refl, le-suc, lt_of_le_of_lt}
use mathlib.Core.Logic.{⊎_elim}
use native.Mathlib.Omega.{arith}
use borrow.Author.Tests.{lt-ltb, le-ltb}
use lib.IntN.{ℤ, pos, negsuc, neg_ℤ, nat_abs, sub_ℕ, ◌+ℤ◌, ◌-ℤ◌, +ℤ_assoc, +ℤ_comm, neg_ℤ-+ℤ, +ℤ-neg_ℤ_cancel, -ℤ-+ℤ_cancel}
use lib.Signed.{mag, nat_abs-le}
use mir.Syntax.{Width, w32, w64}
use mir.Val.{SFits, hbits, to_z, of_z}
use mir.Facts.{to_z-of_z}
use Rattle.laws.proofs.Cases.{lt-or-le}

-- ---- a difference of naturals

pub subℕ-pos : (a b : ℕ) → b ≤ a → sub_ℕ a b ≡ pos (a - b)
subℕ-pos a b h = rw (le-ltb a b h)

pub subℕ-neg : (a b : ℕ) → a < b → sub_ℕ a b ≡ negsuc (b - suc a)
subℕ-neg a b h = rw (lt-ltb a b h)

pub nat_abs-subℕ : (a b : ℕ) → nat_abs (sub_ℕ a b) ≡ (a - b) + (b - a)
nat_abs-subℕ a b =
    ⊎_elim
    (λ (h : a < b). rw (subℕ-neg a b h) (omega arith))
    (λ (h : b ≤ a). rw (subℕ-pos a b h) (omega arith))
    (lt-or-le a b)

pub nat_abs-neg : (z : ℤ) → nat_abs (neg_ℤ z) ≡ nat_abs z
nat_abs-neg (pos zero) = refl
nat_abs-neg (pos (suc n)) = refl
nat_abs-neg (negsuc n) = refl

pub nat_abs-add-le : (x y : ℤ) → nat_abs (x +ℤ y) ≤ nat_abs x + nat_abs y
nat_abs-add-le (pos a) (pos b) = le_refl (a + b)
nat_abs-add-le (pos a) (negsuc b) = omega (arith, nat_abs-subℕ a (suc b))
nat_abs-add-le (negsuc a) (pos b) = omega (arith, nat_abs-subℕ b (suc a))
nat_abs-add-le (negsuc a) (negsuc b) = omega arith

pub nat_abs-sub-le : (x y : ℤ) → nat_abs (x -ℤ y) ≤ nat_abs x + nat_abs y
nat_abs-sub-le x y = omega (arith, nat_abs-add-le x (neg_ℤ y), nat_abs-neg y)

-- ---- what fits

pub mag-le-nat_abs : (z : ℤ) → mag z ≤ nat_abs z
mag-le-nat_abs (pos n) = le_refl n
mag-le-nat_abs (negsuc n) = le-suc n

pub sfits-nat_abs : (w : Width) (z : ℤ) → nat_abs z < 2 ^ hbits w → SFits w z
sfits-nat_abs w z h = record { sfits = lt_of_le_of_lt (mag-le-nat_abs z) h }

-- the machine's reading of a number in range is the number
pub reads-back : (w : Width) (z : ℤ) → nat_abs z < 2 ^ hbits w → to_z w (of_z w z) ≡ z
reads-back w z h = to_z-of_z (sfits-nat_abs w z h)

-- a call's result, whose range the logic gives so
pub result-reads : (w : Width) (z : ℤ) → mag z < 2 ^ hbits w → to_z w (of_z w z) ≡ z
result-reads w z h = to_z-of_z (record { sfits = h })

pub i32-nat_abs : {z : ℤ} → SFits w32 z → nat_abs z ≤ 2147483648
i32-nat_abs {z} h = nat_abs-le z h.sfits

pub i32-reads-as-i64 : {z : ℤ} → SFits w32 z → to_z w64 (of_z w64 (to_z w32 (of_z w32 z))) ≡ z
i32-reads-as-i64 {z} h = rw (to_z-of_z h) (reads-back w64 z (omega (arith, i32-nat_abs h)))

-- ---- a common summand

pub sub-add-common : (x y c : ℤ) → (x +ℤ c) -ℤ (y +ℤ c) ≡ x -ℤ y
sub-add-common x y c =
    ap (λ (t : ℤ). (x +ℤ c) +ℤ t) (neg_ℤ-+ℤ y c ∙ +ℤ_comm (neg_ℤ y) (neg_ℤ c))
    ∙ sym (+ℤ_assoc (x +ℤ c) (neg_ℤ c) (neg_ℤ y))
    ∙ ap (λ (t : ℤ). t +ℤ neg_ℤ y) (+ℤ-neg_ℤ_cancel x c)

-- a number is its distance from c, and c
pub sub-shift : (z y c : ℤ) → z -ℤ (y +ℤ c) ≡ (z -ℤ c) -ℤ y
sub-shift z y c = ap (λ (t : ℤ). t -ℤ (y +ℤ c)) (sym (-ℤ-+ℤ_cancel z c)) ∙ sub-add-common (z -ℤ c) y c
