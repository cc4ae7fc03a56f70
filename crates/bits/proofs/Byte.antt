-- One bit of a number: replacing it gives that bit and leaves each other one.
-- Assumes nothing.
use Prim.Native.Nat.{ℕ, zero, suc, ◌+◌, ◌-◌, ◌*◌, ◌/◌, ◌%◌, ◌^◌, ◌≤◌, ◌<◌}
use mathlib.Core.Path.{◌≡◌, ap, sym, ◌∙◌, subst}
use native.Mathlib.Nat.{mod-lt, div-add-mod', pow-suc}
use native.Mathlib.Decide.{dec_lt}
use native.Mathlib.Numerals.{add-one}
use native.Mathlib.Omega.{arith}
use lib.Arith.{digits_lt}
use lib.Dec.{lit<}
use lib.Pow.{pow_pos, pow-add, shr-shr, split, high, low, shr_lt, field, mod-mod-pow}
use Rattle.bits.specs.Bits.{bit_of, with_bit}

pub power-step : (k : ℕ) → 2 ^ (k + 1) ≡ 2 ^ k * 2
power-step k = rw add-one (pow-suc 2 k)

pub bit_of-lt : (x k : ℕ) → bit_of x k < 2
bit_of-lt x k = mod-lt (x / 2 ^ k) (lit< tt)

-- x is what stands above the bit, the bit, and what stands below
pub parts : (x k : ℕ) → x / 2 ^ (k + 1) * 2 ^ (k + 1) + (bit_of x k * 2 ^ k + x % 2 ^ k) ≡ x
parts x k =
    rw (← shr-shr x k 1, power-step k)
    (omega (arith, split x k, ap (λ (q : ℕ). q * 2 ^ k) (div-add-mod' (x / 2 ^ k) 2)))

-- the code's way: the old bit's weight taken away, the new one's added
pub with_bit-is : (x k b : ℕ) → x - bit_of x k * 2 ^ k + b * 2 ^ k ≡ with_bit x k b
with_bit-is x k b = omega (arith, parts x k)

pub bit-weight-le : (x k : ℕ) → bit_of x k * 2 ^ k ≤ x
bit-weight-le x k = omega (arith, parts x k)

module _ (x k b : ℕ) (bit : b < 2) where
  -- what stands at the bit and below
  tail-lt : b * 2 ^ k + x % 2 ^ k < 2 ^ (k + 1)
  tail-lt =
      rw (power-step k)
      (omega (arith, mod-lt x (pow_pos k), mul-le b (2 ^ k) bit))
    where
      mul-le : (c p : ℕ) → c < 2 → c * p ≤ p
      mul-le zero p h = omega arith
      mul-le (suc zero) p h = omega arith
      mul-le (suc (suc c)) p h = absurd (omega arith)

  pub shifted : with_bit x k b ≡ (x / 2 ^ (k + 1) * 2 + b) * 2 ^ k + x % 2 ^ k
  shifted = rw (power-step k) (omega arith)

  pub bit_of-same : bit_of (with_bit x k b) k ≡ b
  bit_of-same = rw (shifted, high (x / 2 ^ (k + 1) * 2 + b) k (mod-lt x (pow_pos k))) (omega arith)

  above : (d : ℕ) → bit_of (with_bit x k b) (k + 1 + d) ≡ bit_of x (k + 1 + d)
  above d =
      rw (← shr-shr (with_bit x k b) (k + 1) d, ← shr-shr x (k + 1) d, high (x / 2 ^ (k + 1)) (k + 1) tail-lt)

  pub low_same : with_bit x k b % 2 ^ k ≡ x % 2 ^ k
  low_same = rw (shifted, low (x / 2 ^ (k + 1) * 2 + b) k (mod-lt x (pow_pos k)))

-- a bit is one of the low bits
pub bit-from-low : (y d i : ℕ) → bit_of y i ≡ y % 2 ^ (d + (1 + i)) % 2 ^ (1 + i) / 2 ^ i
bit-from-low y d i = rw (mod-mod-pow y d (1 + i), field y 1 i)

below : (x k b : ℕ) → b < 2 → (d i : ℕ) → d + (1 + i) ≡ k → bit_of (with_bit x k b) i ≡ bit_of x i
below x k b h d i e = bit-from-low (with_bit x k b) d i ∙ rw (e, low_same x k b h, ← e, ← bit-from-low x d i)

pub bit_of-other : (x k b i : ℕ) → b < 2 → (i ≡ k → ⊥) → bit_of (with_bit x k b) i ≡ bit_of x i
bit_of-other x k b i h ne =
    elim (dec_lt i k) [
      | yes l ↦ below x k b h (k - (1 + i)) i (omega arith)
      | no n ↦
          let e : k + 1 + (i - (k + 1)) ≡ i = omega arith in
          subst (λ (j : ℕ). bit_of (with_bit x k b) j ≡ bit_of x j) e (above x k b h (i - (k + 1)))
    ]

pub with_bit-byte : (x k b : ℕ) → x < 2 ^ 8 → k < 8 → b < 2 → with_bit x k b < 2 ^ 8
with_bit-byte x k b hx hk hb =
    let e : 7 - k + (k + 1) ≡ 8 = omega arith in
    subst (λ (n : ℕ). with_bit x k b < n) (sym (pow-add 2 (7 - k) (k + 1)) ∙ ap (λ (n : ℕ). 2 ^ n) e)
    (digits_lt (shr_lt (7 - k) (k + 1) (subst (λ (n : ℕ). x < 2 ^ n) (sym e) hx)) (tail-lt x k b hb))
