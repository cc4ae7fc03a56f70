-- Whole numbers between two bounds, −lo and hi, kept as magnitudes, which omega reads: sums, differences and products by a number above 0 stay between the sums and products of the bounds.
-- Assumes nothing.
use Prim.Native.Nat.{ℕ, zero, suc, ◌+◌, ◌*◌, ◌≤◌, ◌<◌, zero-le}
use mathlib.Core.Logic.{⊎_elim}
use native.Mathlib.Nat.{mul-le-mul}
use native.Mathlib.Omega.{arith}
use lib.IntN.{ℤ, pos, negsuc, neg_ℤ, nat_abs, sub_ℕ, ◌+ℤ◌, ◌-ℤ◌, ◌*ℤ◌}
use Rattle.laws.proofs.Cases.{lt-or-le}
use Rattle.laws.proofs.Signed.{subℕ-pos, subℕ-neg}

-- how far a whole number lies above 0, and below
abbrev pub upward : ℤ → ℕ
upward (pos n) = n
upward (negsuc n) = 0

abbrev pub downward : ℤ → ℕ
downward (pos n) = 0
downward (negsuc n) = suc n

pub record Between (lo hi : ℕ) (z : ℤ) : Type 0 where
  pub high : upward z ≤ hi
  pub low : downward z ≤ lo

pub between-subℕ : (a b lo hi : ℕ) → a ≤ b + hi → b ≤ a + lo → Between lo hi (sub_ℕ a b)
between-subℕ a b lo hi p q =
    ⊎_elim
    (λ (h : a < b). rw (subℕ-neg a b h) (omega arith))
    (λ (h : b ≤ a). rw (subℕ-pos a b h) (omega arith))
    (lt-or-le a b)

pub between-neg : (z : ℤ) {lo hi : ℕ} → Between lo hi z → Between hi lo (neg_ℤ z)
between-neg (pos zero) b = omega arith
between-neg (pos (suc n)) b = omega arith
between-neg (negsuc n) b = omega arith

pub between-add : (z w : ℤ) {lo hi lo' hi' : ℕ} → Between lo hi z → Between lo' hi' w → Between (lo + lo') (hi + hi') (z +ℤ w)
between-add (pos a) (pos b) p q = omega arith
between-add (pos a) (negsuc b) {lo} {hi} {lo'} {hi'} p q = between-subℕ a (suc b) (lo + lo') (hi + hi') (omega arith) (omega arith)
between-add (negsuc a) (pos b) {lo} {hi} {lo'} {hi'} p q = between-subℕ b (suc a) (lo + lo') (hi + hi') (omega arith) (omega arith)
between-add (negsuc a) (negsuc b) p q = omega arith

pub between-sub : (z w : ℤ) {lo hi lo' hi' : ℕ} → Between lo hi z → Between lo' hi' w → Between (lo + hi') (hi + lo') (z -ℤ w)
between-sub z w p q = between-add z (neg_ℤ w) p (between-neg w q)

pub between-mul : (k most : ℕ) (z : ℤ) {lo hi : ℕ} → k ≤ most → Between lo hi z → Between (most * lo) (most * hi) (pos k *ℤ z)
between-mul k most (pos a) h b = record { high = mul-le-mul h b.high; low = zero-le }
between-mul k most (negsuc a) {lo} {hi} h b = between-neg (pos (k * suc a)) {lo = most * hi} {hi = most * lo} (record { high = mul-le-mul h b.low; low = zero-le })

pub between-size : (z : ℤ) {lo hi most : ℕ} → lo ≤ most → hi ≤ most → Between lo hi z → nat_abs z ≤ most
between-size (pos n) p q b = omega arith
between-size (negsuc n) p q b = omega arith

pub between-of-size : (z : ℤ) {most : ℕ} → nat_abs z ≤ most → Between most most z
between-of-size (pos n) h = omega arith
between-of-size (negsuc n) h = omega arith
