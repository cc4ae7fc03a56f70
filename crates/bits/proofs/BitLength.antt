-- The number of bits of x is the one w with x below 2 ^ w and not below 2 ^ (w - 1): halving takes one bit off.
-- Assumes nothing.
use Prim.Native.Nat.{ℕ, zero, suc, ◌+◌, ◌-◌, ◌*◌, ◌/◌, ◌^◌, ◌≤◌, ◌<◌}
use mathlib.Core.Path.{◌≡◌, refl, ap, sym, ◌∙◌, subst}
use native.Mathlib.Decide.{dec_lt, ℕ_discrete}
use native.Mathlib.Nat.{le_refl, pow-suc}
use native.Mathlib.Omega.{arith}
use borrow.Author.Tests.{eq-eqb, ne_eqb}
use lib.Count.{count_leading_zeros, leading_length}
use lib.Dec.{lit<, lit≤}
use lib.Pow.{pow_mono, pow_pos}
use Rattle.bits.specs.Ns.{halvings, bit_length}

-- x is below 2 ^ w and not below 2 ^ (w - 1)
pub record Length (x w : ℕ) : Type 0 where
  pub below : x < 2 ^ w
  pub least : 0 < x → 2 ^ w ≤ 2 * x

halvings-zero : (k : ℕ) → halvings k 0 ≡ 0
halvings-zero zero = refl
halvings-zero (suc k) = refl

halvings-length : (k x : ℕ) → x ≤ k → Length x (halvings k x)
halvings-length zero x h = record { below = omega arith; least = omega arith }
halvings-length (suc k) x h =
    elim (ℕ_discrete x 0) [
      | yes e ↦ rw (eq-eqb x 0 e) (record { below = omega arith; least = omega arith })
      | no n ↦
          let half : Length (x / 2) (halvings k (x / 2)) = halvings-length k (x / 2) (omega arith) in
          rw (ne_eqb x 0 n)
          (record {
            below = omega (arith, half.below, pow-suc 2 (halvings k (x / 2)));
            least = λ (pos : 0 < x).
                elim (ℕ_discrete (x / 2) 0) [
                  | yes z ↦
                      let w : halvings k (x / 2) ≡ 0 = ap (halvings k) z ∙ halvings-zero k in
                      subst (λ (m : ℕ). 2 ^ suc m ≤ 2 * x) (sym w) (let two : 2 ≤ 2 * x = omega arith in two)
                  | no nz ↦
                      let least : 2 ^ halvings k (x / 2) ≤ 2 * (x / 2) = half.least (omega arith) in
                      omega (arith, pow-suc 2 (halvings k (x / 2)))
                ];
          })
    ]

pub bit_length-length : (x : ℕ) → Length x (bit_length x)
unfolding bit_length
bit_length-length x = halvings-length x x (le_refl x)

-- no other number is the length
pub length-unique : (x v w : ℕ) → 0 < x → Length x v → Length x w → v ≡ w
length-unique x v w pos a b =
    elim (dec_lt v w) [
      | yes l ↦ absurd (apart v w l a.below (b.least pos))
      | no n ↦
          elim (dec_lt w v) [
            | yes l ↦ absurd (apart w v l b.below (a.least pos))
            | no m ↦ omega arith
          ]
    ]
  where
    apart : (i j : ℕ) → i < j → x < 2 ^ i → 2 ^ j ≤ 2 * x → ⊥
    apart i j l s t = omega (arith, pow_mono l, pow-suc 2 i)

pub bit_length-is : (x w : ℕ) → 0 < x → x < 2 ^ w → 2 ^ w ≤ 2 * x → bit_length x ≡ w
bit_length-is x w pos s t = length-unique x (bit_length x) w pos (bit_length-length x) (record { below = s; least = λ p. t })

pub bit_length-zero : bit_length 0 ≡ 0
unfolding bit_length
bit_length-zero = refl

pub bit_length-step : (x : ℕ) → 0 < x → bit_length x ≡ suc (bit_length (x / 2))
bit_length-step x pos =
    elim (ℕ_discrete (x / 2) 0) [
      | yes z ↦
          let one : x ≡ 1 = omega arith in
          rw (z, bit_length-zero, one) (bit_length-is 1 1 (lit< tt) (lit< tt) (lit≤ tt))
      | no n ↦
          let h : Length (x / 2) (bit_length (x / 2)) = bit_length-length (x / 2) in
          let least : 2 ^ bit_length (x / 2) ≤ 2 * (x / 2) = h.least (omega arith) in
          bit_length-is x (suc (bit_length (x / 2))) pos
          (omega (arith, h.below, pow-suc 2 (bit_length (x / 2))))
          (omega (arith, pow-suc 2 (bit_length (x / 2))))
    ]

pub bit_length-le : (x n : ℕ) → x < 2 ^ n → bit_length x ≤ n
bit_length-le x n h =
    elim (ℕ_discrete x 0) [
      | yes z ↦ rw (z, bit_length-zero) (omega arith)
      | no nz ↦
          elim (dec_lt n (bit_length x)) [
            | yes l ↦ absurd (omega (arith, pow_mono l, pow-suc 2 n, (bit_length-length x).least (omega arith)))
            | no m ↦ omega arith
          ]
    ]

-- what is left of 32 behind the zeros in front
pub behind-zeros : (x : ℕ) → x < 2 ^ 32 → 32 - count_leading_zeros 32 x ≡ bit_length x
behind-zeros x h =
    let s = leading_length 32 x h in
    let left : 32 - count_leading_zeros 32 x ≡ s.0 = omega (arith, s.1) in
    left ∙ sym (is s.0 s.2 s.3)
  where
    is : (m : ℕ) → x < 2 ^ m → 2 ^ m ≤ 2 * x + 1 → bit_length x ≡ m
    is zero below least =
        let z : x ≡ 0 = omega (arith, below) in
        rw (z, bit_length-zero)
    is (suc m) below least =
        let some : 0 < x = omega (arith, least, pow-suc 2 m, pow_pos m) in
        bit_length-is x (suc m) some below (omega (arith, least, pow-suc 2 m))
