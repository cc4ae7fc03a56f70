-- The scaled number of a significand by a power of two, and how large its root is: 53 digits, never 2 ^ 53.
-- Assumes nothing.
use Prim.Native.Nat.{ℕ, zero, suc, ◌+◌, ◌-◌, ◌*◌, ◌/◌, ◌%◌, ◌^◌, ◌≤◌, ◌<◌}
use mathlib.Core.Logic.{⊎_elim}
use mathlib.Core.Path.{◌≡◌, refl, sym, ap, ◌∙◌, subst}
use native.Mathlib.Nat.{le_antisymm, mul_assoc, mul_comm, mul_left_comm, mul-le-mul_right, mul-lt-mul_of_pos_right, lt_of_mul-lt-mul_right, mul-div_cancel, zero-lt-suc, pow-suc}
use native.Mathlib.Omega.{arith}
use lib.Pow.{pow-add, pow_pos, pow_mono}
use lib.Ieee.{size}
use lib.Ieee.Digits.{size-lt, size-le, size_reaches}
use Rattle.laws.proofs.Cases.{lt-or-le}
use Rattle.root.specs.Root.{nearest_root, half_digits, scaled, scaled_back}
use Rattle.root.specs.Inner.{leading, Significand, Tall, significand_root}
use Rattle.root.proofs.Squares.{nearest-root, at_most, above}

-- n is the significand m by a power of two
pub record Normal (n m p : ℕ) : Type 0 where
  pub digits : Significand m
  pub is : m * 2 ^ p ≡ n * leading
  pub deep : p < 2098

-- ---- how many digits

module _ {n m p : ℕ} (normal : Normal n m p) where
  under : n < 2 ^ (p + 1)
  under =
      lt_of_mul-lt-mul_right leading
      (subst (λ (x : ℕ). x < 2 ^ (p + 1) * leading) normal.is
      (subst (λ (x : ℕ). m * 2 ^ p < x) (let e : 2 * leading * 2 ^ p ≡ 2 ^ p * 2 * leading = omega arith in e ∙ ap (λ (x : ℕ). x * leading) (sym (pow-add 2 p 1)))
      (mul-lt-mul_of_pos_right normal.digits.high (pow_pos p))))

  pub reached : 2 ^ p ≤ n
  reached =
      ⊎_elim
      (λ (l : n < 2 ^ p).
      let less : n * leading < 2 ^ p * leading = mul-lt-mul_of_pos_right l (omega arith) in
      absurd (omega (arith, normal.is, mul-le-mul_right (2 ^ p) normal.digits.low)))
      (λ l. l)
      (lt-or-le n (2 ^ p))

  pub digits_of : size n ≡ p + 1
  digits_of =
      ⊎_elim
      (λ (l : size n < p + 1). absurd (omega (arith, size-lt n, reached, pow_mono {i = size n} {j = p} (omega arith))))
      (λ (l : p + 1 ≤ size n). le_antisymm (size-le n (p + 1) under) l)
      (lt-or-le (size n) (p + 1))

  pub half-digits-of : half_digits n ≡ p / 2 + 1
  half-digits-of = ap (λ (x : ℕ). (x + 1) / 2) digits_of ∙ (let e : (p + 1 + 1) / 2 ≡ p / 2 + 1 = omega arith in e)

-- ---- the scaled number

pub four-power : (k : ℕ) → 4 ^ k ≡ 2 ^ (k + k)
four-power zero = refl
four-power (suc k) =
    pow-suc 4 k
    ∙ ap (λ (x : ℕ). x * 4) (four-power k)
    ∙ sym (pow-add 2 (k + k) 2)
    ∙ ap (λ (x : ℕ). 2 ^ x) (let e : k + k + 2 ≡ suc k + suc k = omega arith in e)

by-halves : (p : ℕ) → 2 ^ p ≡ 2 ^ (p % 2) * 4 ^ (p / 2)
by-halves p =
    ap (λ (x : ℕ). 2 ^ x) (let e : p ≡ p % 2 + (p / 2 + p / 2) = omega arith in e)
    ∙ pow-add 2 (p % 2) (p / 2 + p / 2)
    ∙ ap (λ (x : ℕ). 2 ^ (p % 2) * x) (sym (four-power (p / 2)))

regrouped : (n m r q : ℕ) → m * (r * q) ≡ n * leading → n * (leading * leading * 4) ≡ m * r * leading * (q * 4)
regrouped n m r q h =
    let l : n * (leading * leading * 4) ≡ n * leading * (leading * 4) = omega arith in
    let a : m * (r * q) * (leading * 4) ≡ m * r * leading * (q * 4) = simp (mul_assoc, mul_comm, mul_left_comm) in
    l ∙ ap (λ (x : ℕ). x * (leading * 4)) (sym h) ∙ a

module _ {n m p : ℕ} (normal : Normal n m p) where
  pub scaled-of : scaled n ≡ m * 2 ^ (p % 2) * leading
  scaled-of =
      ap (λ (x : ℕ). n * 4 ^ 53 / 4 ^ x) (half-digits-of normal)
      ∙ ap (λ (x : ℕ). n * 4 ^ 53 / x) (pow-add 4 (p / 2) 1)
      ∙ ap (λ (x : ℕ). x / (4 ^ (p / 2) * 4))
      (regrouped n m (2 ^ (p % 2)) (4 ^ (p / 2)) (ap (λ (x : ℕ). m * x) (sym (by-halves p)) ∙ normal.is))
      ∙ mul-div_cancel (m * 2 ^ (p % 2) * leading) (let h : 0 < 4 ^ (p / 2) * 4 = omega (arith, four-pos (p / 2)) in h)
    where
      four-pos : (k : ℕ) → 0 < 4 ^ k
      four-pos k = rw (four-power k) (pow_pos (k + k))

  -- nothing is lost by it
  pub scaled_exact : scaled n * 4 ^ half_digits n ≡ n * 4 ^ 53
  scaled_exact =
      rw (scaled-of, half-digits-of normal, pow-add 4 (p / 2) 1)
      (sym (regrouped n m (2 ^ (p % 2)) (4 ^ (p / 2)) (ap (λ (x : ℕ). m * x) (sym (by-halves p)) ∙ normal.is)))

  pub scaled-back : scaled_back (scaled n) (half_digits n) ≡ significand_root m p
  scaled-back = rw (scaled-of, half-digits-of normal)

-- ---- its root

pub odd_power : (r : ℕ) → r < 2 → 2 ^ r ≡ 1 + r
odd_power zero h = refl
odd_power (suc zero) h = refl
odd_power (suc (suc r)) h = absurd (omega arith)

pub tall : (m r : ℕ) → Significand m → r < 2 → Tall (m * (1 + r))
tall m zero s h = record { low = omega arith; high = omega arith }
tall m (suc zero) s h = record { low = omega arith; high = omega arith }
tall m (suc (suc r)) s h = absurd (omega arith)

-- 105 or 106 digits
pub scaled-range : {n m p : ℕ} → Normal n m p → (4 ^ 52 ≤ scaled n) × (scaled n < 4 ^ 53)
scaled-range {n} {m} {p} normal =
    let r : p % 2 < 2 = omega arith in
    let t = tall m (p % 2) normal.digits r in
    rw (scaled-of normal, odd_power (p % 2) r) (range (m * (1 + p % 2)) t)
  where
    range : (t : ℕ) → Tall t → (4 ^ 52 ≤ t * leading) × (t * leading < 4 ^ 53)
    range t h = (omega (arith, h.low), omega (arith, h.high))

-- the root has its leading digit at 2 ^ 52 and stays below 2 ^ 53
pub root-digits : (t : ℕ) → Tall t → Significand (nearest_root (t * leading))
root-digits t h =
    let near = nearest-root (t * leading) (omega arith) (omega arith) in
    record {
      low = above near 4503599627370495 (omega arith);
      high = let l : nearest_root (t * leading) ≤ 9007199254740991 = at_most near 9007199254740991 (omega arith) in omega arith;
    }

-- ---- a number below the least with a leading digit, doubled up to one

pub record Doubled (n m p : ℕ) : Type 0 where
  pub is : m * 2 ^ p ≡ n * leading
  pub high : m < 2 * leading
  pub deep : p ≤ 52

pub power-left : (n m p : ℕ) → 0 < n → m < leading → Doubled n m p → 0 < p
power-left n m zero some h d = absurd (omega (arith, d.is))
power-left n m (suc p) some h d = zero-lt-suc p

halved : (m p : ℕ) → (m + m) * 2 ^ (suc p - 1) ≡ m * 2 ^ suc p
halved m p =
    let back : suc p - 1 ≡ p = omega arith in
    ap (λ (q : ℕ). (m + m) * 2 ^ q) back ∙ (let e : (m + m) * 2 ^ p ≡ m * (2 ^ p * 2) = omega arith in e) ∙ ap (λ (z : ℕ). m * z) (sym (pow-suc 2 p))

pub doubled-again : (n m p : ℕ) → 0 < p → m < leading → Doubled n m p → Doubled n (m + m) (p - 1)
doubled-again n m zero some h d = absurd (omega arith)
doubled-again n m (suc p) some h d = record { is = halved m p ∙ d.is; high = omega arith; deep = omega (arith, d.deep) }

pub doubled-up : {n m p : ℕ} → leading ≤ m → Doubled n m p → Normal n m p
doubled-up h d = record { digits = record { low = h; high = d.high }; is = d.is; deep = omega (arith, d.deep) }

-- the same at once
pub normal-of-small : (n : ℕ) → 0 < n → n < leading → Normal n (n * 2 ^ (53 - size n)) (size n - 1)
normal-of-small n some h =
    let d = size n in
    let few : d ≤ 52 = size-le n 52 h in
    let one : 1 ≤ d = ⊎_elim (λ (l : d < 1). absurd (omega (arith, size-lt n, ap (λ (x : ℕ). 2 ^ x) (let e : d ≡ 0 = omega arith in e)))) (λ l. l) (lt-or-le d 1) in
    let first : d - 1 + (53 - d) ≡ 52 = omega arith in
    let whole : d + (53 - d) ≡ 53 = omega arith in
    let last : 53 - d + (d - 1) ≡ 52 = omega arith in
    record {
      digits = record {
        low = subst (λ (x : ℕ). x ≤ n * 2 ^ (53 - d)) (sym (pow-add 2 (d - 1) (53 - d)) ∙ ap (λ (x : ℕ). 2 ^ x) first)
            (mul-le-mul_right (2 ^ (53 - d)) (size_reaches n (d - 1) (omega arith)));
        high = subst (λ (x : ℕ). n * 2 ^ (53 - d) < x) (sym (pow-add 2 d (53 - d)) ∙ ap (λ (x : ℕ). 2 ^ x) whole)
            (mul-lt-mul_of_pos_right (size-lt n) (pow_pos (53 - d)));
      };
      is = mul_assoc n (2 ^ (53 - d)) (2 ^ (d - 1)) ∙ ap (λ (x : ℕ). n * x) (sym (pow-add 2 (53 - d) (d - 1)) ∙ ap (λ (x : ℕ). 2 ^ x) last);
      deep = omega arith;
    }
