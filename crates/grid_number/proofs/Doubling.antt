-- A number of a format, added to itself, is twice the number exactly, as long as it is below half of the format's reach.
-- Assumes nothing.
use Rattle.std.proofs.Common.{◌≡◌, ℕ, suc, ◌+◌, ◌-◌, ◌*◌, ◌%◌, ◌^◌, ◌<◌, ◌≤◌, Bool, false, ◌&&◌, T, eqb, ltb, leb, ℤ, pos, negsuc, sym, ap, ◌∙◌, subst, le_of_suc-le-suc, mul_assoc, mul_comm, add-mul, lt_of_mul-lt-mul_right, mul-lt-mul_of_pos_right, mul-pos, one-mul, pow-suc, lt_of_not-le, mul-one, not-le_of_lt, mul_left_comm, arith, ltb→lt, leb→le, pow_pos, pow-add}
use lib.Pow.{pow-lt}
use lib.Ieee.{fin, Format, prec, emax, low, up, down, round, sum, add, fits}
use lib.Ieee.Exact.{HasValue, round_exact}
use lib.Ieee.Fits.{and_l, and_r, down_pos}
use lib.Ieee.Scale.{round_same}

-- the exponent of twice a number, counted from the format's smallest value
pub record Shifted (l : ℕ) (e : ℤ) : Type 0 where
  pub shift : ℕ
  pub is : up e * 2 ^ l * 2 ≡ 2 ^ shift * down e

below-exponent : (a b : ℕ) → 2 ^ a ≤ 2 ^ b → a ≤ b
below-exponent a b h = le_of_suc-le-suc (lt_of_not-le (λ (g : suc b ≤ a). not-le_of_lt (pow-lt g) h))

shifted : (l : ℕ) (e : ℤ) → down e ≤ 2 ^ l → Shifted l e
shifted l (pos k) h = record { shift = suc (k + l); is = rw (pow-suc, pow-add, mul-one) }
shifted l (negsuc k) h =
    let g : suc k ≤ l = below-exponent (suc k) l h in
    let s : l - suc k + suc k ≡ l = omega arith in
    record {
      shift = suc (l - suc k);
      is =
          rw (one-mul, pow-suc 2 (l - suc k))
          (sym
          (mul_assoc (2 ^ (l - suc k)) 2 (2 ^ suc k)
          ∙ ap (λ (x : ℕ). 2 ^ (l - suc k) * x) (mul_comm 2 (2 ^ suc k))
          ∙ sym (mul_assoc (2 ^ (l - suc k)) (2 ^ suc k) 2)
          ∙ ap (λ (x : ℕ). x * 2) (sym (pow-add 2 (l - suc k) (suc k)) ∙ ap (λ (x : ℕ). 2 ^ x) s)));
    }

pair : (x : ℕ) → x + x ≡ x * 2
pair x = omega arith

doubled-product : (a u l p d : ℕ) → u * l * 2 ≡ p * d → (a * u + a * u) * l ≡ a * p * d
doubled-product a u l p d h =
    let regrouped : a * u * 2 * l ≡ a * (u * l * 2) = simp (mul_assoc, mul_comm, mul_left_comm) in
    ap (λ (x : ℕ). x * l) (pair (a * u))
    ∙ regrouped
    ∙ ap (λ (x : ℕ). a * x) h
    ∙ sym (mul_assoc a p d)

reach : (x d l : ℕ) → (x * d + x * d) * l ≡ l * (x * 2) * d
reach x d l =
    let regrouped : x * d * 2 * l ≡ l * (x * 2) * d = simp (mul_assoc, mul_comm, mul_left_comm) in
    ap (λ (y : ℕ). y * l) (pair (x * d)) ∙ regrouped

module _ (f : Format) (m : ℕ) (e : ℤ) where
  abbrev size : ℕ
  size = suc m * up e

  abbrev is_odd : Bool
  is_odd = eqb (suc m % 2) 1

  abbrev few-digits : Bool
  few-digits = ltb (suc m) (2 ^ prec f)

  abbrev deep : Bool
  deep = leb (down e) (2 ^ low f)

  abbrev small : Bool
  small = ltb (suc m * up e) (2 ^ suc (emax f) * down e)

  digits : T (fits f (fin false (suc m) e)) → suc m < 2 ^ prec f
  unfolding fits
  digits t =
      ltb→lt (suc m) (2 ^ prec f)
      (and_r is_odd few-digits (and_l (is_odd && few-digits) deep (and_l (is_odd && few-digits && deep) small t)))

  depth : T (fits f (fin false (suc m) e)) → down e ≤ 2 ^ low f
  unfolding fits
  depth t = leb→le (down e) (2 ^ low f) (and_r (is_odd && few-digits) deep (and_l (is_odd && few-digits && deep) small t))

  once : add f (fin false (suc m) e) (fin false (suc m) e) ≡ round f false (size + size) (down e)
  unfolding add sum
  once =
      round_same f false (size * down e + size * down e) (down e * down e) (size + size) (down e) (mul-pos (down_pos e) (down_pos e)) (down_pos e)
      (ap (λ (x : ℕ). x * down e) (sym (add-mul size size (down e))) ∙ mul_assoc (size + size) (down e) (down e))

  pub double-exact : T (fits f (fin false (suc m) e)) → suc m * up e < 2 ^ emax f * down e
      → HasValue (add f (fin false (suc m) e) (fin false (suc m) e)) false (suc m * up e + suc m * up e) (down e)
  double-exact t h =
      let j = shifted (low f) e (depth t) in
      let top = 2 ^ emax f * down e in
      let same : (size + size) * 2 ^ low f ≡ suc m * 2 ^ j.shift * down e = doubled-product (suc m) (up e) (2 ^ low f) (2 ^ j.shift) (down e) j.is in
      let less : size + size < top + top = omega arith in
      let under : suc m * 2 ^ j.shift * down e < 2 ^ (low f + suc (emax f)) * down e =
      subst (λ (x : ℕ). x < 2 ^ (low f + suc (emax f)) * down e) same
      (subst (λ (x : ℕ). (size + size) * 2 ^ low f < x)
      (reach (2 ^ emax f) (down e) (2 ^ low f) ∙ ap (λ (x : ℕ). 2 ^ low f * x * down e) (sym (pow-suc 2 (emax f))) ∙ ap (λ (x : ℕ). x * down e) (sym (pow-add 2 (low f) (suc (emax f)))))
      (mul-lt-mul_of_pos_right less (pow_pos (low f)))) in
      rw once
      (round_exact f false (size + size) (down e) (suc m) j.shift (down_pos e) (digits t) (lt_of_mul-lt-mul_right (down e) under) same)
