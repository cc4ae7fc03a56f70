-- Roots by bit patterns: the number that a pattern without sign stands for, and the pattern of its root.
-- Assumes nothing.
use Prim.Native.Nat.{ℕ, zero, suc, ◌+◌, ◌-◌, ◌*◌, ◌/◌, ◌%◌, ◌^◌, ◌≤◌, ◌<◌}
use mathlib.Core.Bool.{Bool, true, false, not, cond}
use mathlib.Core.Logic.{⊎_elim}
use mathlib.Core.Path.{◌≡◌, refl, sym, ap, ◌∙◌, subst}
use native.Mathlib.Nat.{mul_assoc, mul-one, mul-div_cancel, mul-pos, lt_of_lt_of_le, mod-eq_of_lt}
use native.Mathlib.Omega.{arith}
use borrow.Author.Tests.{le-ltb, lt-leb, le-leb, ne_eqb}
use lib.Arith.{digits_div, digits_mod}
use lib.Dec.{T, eqb}
use lib.IntN.{pos}
use lib.Pow.{pow-add, pow_pos, shl_lt, pow_mono}
use lib.Ieee.{Float, nan, inf, fin, binary64, up, down, odd, round, lt, of_fields, of_bits, nan_bits}
use lib.Ieee.Bits.{of_bits-fits, nan_bits_above}
use lib.Ieee.Exact.{HasValue, odd_sign, round_exact}
use lib.Ieee.Fits.{down_pos, round-fits}
use Rattle.laws.proofs.Cases.{lt-or-le}
use Rattle.laws.proofs.Value.{one_number, enlarged}
use Rattle.root.specs.Root.{root, nearest_root, half_digits, scaled, scaled_back}
use Rattle.root.specs.Inner.{leading, Significand, significand_root}
use Rattle.root.proofs.Scaling.{Normal, reached, scaled-back, odd_power, tall, root-digits}

-- the pattern of plus infinity: those of the finite numbers without sign lie below it
abbrev pub infinity : ℕ
infinity = 9218868437227405312

-- the weight of the sign
abbrev sign : ℕ
sign = 9223372036854775808

-- 0.0
abbrev pub zero-point : Float
zero-point = fin false 0 (pos 0)

pub not-nan : (b : ℕ) → b < infinity → T (not (nan_bits binary64 b))
not-nan b h = subst (λ (t : Bool). T (not t)) (sym (nan_bits_above binary64 b ∙ le-ltb infinity (b % sign) (omega arith))) tt

-- ---- a number by its value in units of the least

no_zero : (u l n d : ℕ) → 0 * u * l ≡ n * d → 0 < n → 0 < d → ⊥
no_zero u l n d e p q = omega (arith, mul-pos p q)

pub root-of-value : (x : Float) (n : ℕ) → 0 < n → HasValue x false n (2 ^ 1074) → root x ≡ scaled_back (scaled n) (half_digits n)
unfolding root
root-of-value nan n h v = absurd v
root-of-value (inf s) n h v = absurd v
root-of-value (fin true m e) n h v = absurd (subst T v.0 tt)
root-of-value (fin false zero e) n h v = absurd (no_zero (up e) (2 ^ 1074) n (down e) v.1 h (down_pos e))
root-of-value (fin false (suc m) e) n h v = ap (λ (k : ℕ). scaled_back (scaled k) (half_digits k)) (ap (λ (k : ℕ). k / down e) v.1 ∙ mul-div_cancel n (down_pos e))

pub root-of-normal : (x : Float) (n m p : ℕ) → Normal n m p → HasValue x false n (2 ^ 1074) → root x ≡ significand_root m p
root-of-normal x n m p normal v = root-of-value x n (lt_of_lt_of_le (pow_pos p) (reached normal)) v ∙ scaled-back normal

-- ---- the number of a pattern

bits-are-fields : (x t : ℕ) → x < 2048 → t < leading → of_bits binary64 (x * leading + t) ≡ of_fields binary64 false x t
unfolding of_bits
bits-are-fields x t h l =
    let b = x * leading + t in
    let small : b < sign = omega arith in
    ap (λ (s : Bool). of_fields binary64 s (b % sign / leading) (b % leading)) (lt-leb sign b small)
    ∙ ap (λ (k : ℕ). of_fields binary64 false (k / leading) (b % leading)) (mod-eq_of_lt small)
    ∙ ap (λ (k : ℕ). of_fields binary64 false k (b % leading)) (digits_div x l)
    ∙ ap (λ (k : ℕ). of_fields binary64 false x k) (digits_mod x l)

fields_value : (x t : ℕ) → x < 2046 → HasValue (of_fields binary64 false (suc x) t) false ((leading + t) * 2 ^ x) (2 ^ 1074)
unfolding of_fields
fields_value x t h =
    subst
    (λ (b : Bool). HasValue (cond b (cond (eqb t 0) (inf false) nan) (odd 53 false (leading + t) x 1074)) false ((leading + t) * 2 ^ x) (2 ^ 1074))
    (sym (ne_eqb (suc x) 2047 (λ (e : suc x ≡ 2047). omega arith)))
    (odd_sign 53 false (leading + t) x 1074)

pub normal-value : (x t : ℕ) → x < 2046 → t < leading → HasValue (of_bits binary64 (suc x * leading + t)) false ((leading + t) * 2 ^ x) (2 ^ 1074)
normal-value x t h l = rw (bits-are-fields (suc x) t (omega arith) l) (fields_value x t h)

pub subnormal-value : (t : ℕ) → t < leading → HasValue (of_bits binary64 t) false t (2 ^ 1074)
unfolding of_fields
subnormal-value t l =
    subst (λ (b : ℕ). HasValue (of_bits binary64 b) false t (2 ^ 1074)) (let e : 0 * leading + t ≡ t = omega arith in e)
    (rw (bits-are-fields 0 t (omega arith) l)
    (subst (λ (a : ℕ). HasValue (odd 53 false t 0 1074) false a (2 ^ 1074)) (mul-one t) (odd_sign 53 false t 0 1074)))

pub normal-of-fields : (x t : ℕ) → x < 2046 → t < leading → Normal ((leading + t) * 2 ^ x) (leading + t) (x + 52)
normal-of-fields x t h l =
    record {
      digits = record { low = omega arith; high = omega arith };
      is = ap (λ (k : ℕ). (leading + t) * k) (pow-add 2 x 52) ∙ sym (mul_assoc (leading + t) (2 ^ x) leading);
      deep = omega arith;
    }

-- the fields of a pattern that has a leading digit
pub normal-root : (b : ℕ) → leading ≤ b → b < infinity → significand_root (b % leading + leading) (b / leading + 51) ≡ root (of_bits binary64 b)
normal-root b h l =
    let x = b / leading - 1 in
    let t = b % leading in
    let less : x < 2046 = omega arith in
    let small : t < leading = omega arith in
    let power : b / leading + 51 ≡ x + 52 = omega arith in
    let whole : suc x * leading + t ≡ b = omega arith in
    ap (λ (p : ℕ). significand_root (t + leading) p) power
    ∙ ap (λ (m : ℕ). significand_root m (x + 52)) (let e : t + leading ≡ leading + t = omega arith in e)
    ∙ sym (root-of-normal (of_bits binary64 (suc x * leading + t)) ((leading + t) * 2 ^ x) (leading + t) (x + 52) (normal-of-fields x t less small) (normal-value x t less small))
    ∙ ap (λ (k : ℕ). root (of_bits binary64 k)) whole

-- ---- the pattern of a root

module _ (t h : ℕ) (small : t < leading) (room : h < 1100) where
  raised : (leading + t) * 2 ^ h * 2 ^ 484 ≡ (leading + t) * 2 ^ (h + 484)
  raised = mul_assoc (leading + t) (2 ^ h) (2 ^ 484) ∙ ap (λ (k : ℕ). (leading + t) * k) (sym (pow-add 2 h 484))

  exact : HasValue (round binary64 false ((leading + t) * 2 ^ h) (2 ^ 590)) false ((leading + t) * 2 ^ h) (2 ^ 590)
  exact =
      let few : leading + t < 2 ^ 53 = omega arith in
      round_exact binary64 false ((leading + t) * 2 ^ h) (2 ^ 590) (leading + t) (h + 484) (pow_pos 590) few
      (lt_of_lt_of_le (shl_lt 53 (h + 484) few) (pow_mono (let k : 53 + (h + 484) ≤ 2098 = omega arith in k)))
      (ap (λ (k : ℕ). (leading + t) * 2 ^ h * k) (pow-add 2 484 590)
      ∙ sym (mul_assoc ((leading + t) * 2 ^ h) (2 ^ 484) (2 ^ 590))
      ∙ ap (λ (k : ℕ). k * 2 ^ 590) raised)

  finer : HasValue (round binary64 false ((leading + t) * 2 ^ h) (2 ^ 590)) false ((leading + t) * 2 ^ (h + 484)) (2 ^ 1074)
  finer =
      subst (λ (a : ℕ). HasValue (round binary64 false ((leading + t) * 2 ^ h) (2 ^ 590)) false a (2 ^ 1074)) raised
      (enlarged (round binary64 false ((leading + t) * 2 ^ h) (2 ^ 590)) false ((leading + t) * 2 ^ h) (2 ^ 590) (2 ^ 484) exact)

  pub pattern-of : round binary64 false ((leading + t) * 2 ^ h) (2 ^ 590) ≡ of_bits binary64 (suc (h + 484) * leading + t)
  pattern-of =
      one_number binary64 (round binary64 false ((leading + t) * 2 ^ h) (2 ^ 590)) (of_bits binary64 (suc (h + 484) * leading + t)) false
      ((leading + t) * 2 ^ (h + 484)) (2 ^ 1074) (pow_pos 1074)
      (round-fits binary64 false ((leading + t) * 2 ^ h) (2 ^ 590))
      (of_bits-fits binary64 (suc (h + 484) * leading + t))
      finer
      (normal-value (h + 484) t (omega arith) small)

-- the root's digits of a significand by a power of two
abbrev pub root_of : ℕ → ℕ → ℕ
root_of m p = nearest_root (m * 2 ^ (p % 2) * leading)

pub root-found : (m p k : ℕ) → k ≡ nearest_root (m * (1 + p % 2) * leading) → k ≡ root_of m p
root-found m p k e =
    let r : p % 2 < 2 = omega arith in
    e ∙ ap (λ (z : ℕ). nearest_root (m * z * leading)) (sym (odd_power (p % 2) r))

pub root-is-significand : (m p : ℕ) → Significand m → Significand (root_of m p)
root-is-significand m p s =
    let r : p % 2 < 2 = omega arith in
    rw (odd_power (p % 2) r) (root-digits (m * (1 + p % 2)) (tall m (p % 2) s r))

pub root-pattern : (m p : ℕ) → Significand m → p < 2098 → significand_root m p ≡ of_bits binary64 ((p / 2 + 485) * leading + root_of m p)
unfolding scaled_back
root-pattern m p s h =
    let k = root_of m p in
    let d = root-is-significand m p s in
    let t = k - leading in
    let is : leading + t ≡ k = omega (arith, d.low) in
    let small : t < leading = omega (arith, d.low, d.high) in
    let room : p / 2 + 1 < 1100 = omega arith in
    ap (λ (z : ℕ). round binary64 false (z * 2 ^ (p / 2 + 1)) (2 ^ 590)) (sym is)
    ∙ pattern-of t (p / 2 + 1) small room
    ∙ ap (of_bits binary64) (let e : suc (p / 2 + 1 + 484) * leading + t ≡ (p / 2 + 485) * leading + k = omega (arith, is) in e)

-- and its value
pub root_value : (m p : ℕ) → Significand m → p < 2098 → HasValue (significand_root m p) false (root_of m p * 2 ^ (p / 2 + 1)) (2 ^ 590)
unfolding scaled_back
root_value m p s h =
    let k = root_of m p in
    let d = root-is-significand m p s in
    let t = k - leading in
    let is : leading + t ≡ k = omega (arith, d.low) in
    let small : t < leading = omega (arith, d.low, d.high) in
    subst (λ (z : ℕ). HasValue (round binary64 false (z * 2 ^ (p / 2 + 1)) (2 ^ 590)) false (z * 2 ^ (p / 2 + 1)) (2 ^ 590)) is
    (exact t (p / 2 + 1) small (omega arith))

-- ---- from infinity's pattern on

full-field : (t : ℕ) (b : Bool) → lt zero-point (cond b (inf false) nan) ≡ true → cond b (inf false) nan ≡ inf false
unfolding lt
full-field t true p = refl
full-field t false p = absurd (subst T (sym p) tt)

signed-value : (x : Float) (a c : ℕ) → HasValue x true a c → lt zero-point x ≡ true → ⊥
unfolding lt
signed-value (fin true m e) a c v p = subst T (sym p) tt
signed-value (fin false m e) a c v p = subst T (sym v.0) tt
signed-value nan a c v p = elim v [ ]
signed-value (inf _) a c v p = elim v [ ]

signed-field : (x t : ℕ) (a b : Bool) → lt zero-point (cond a (cond b (inf true) nan) (odd 53 true (leading + t) x 1074)) ≡ true → ⊥
unfolding lt
signed-field x t true true p = subst T (sym p) tt
signed-field x t true false p = subst T (sym p) tt
signed-field x t false b p = signed-value (odd 53 true (leading + t) x 1074) ((leading + t) * 2 ^ x) (2 ^ 1074) (odd_sign 53 true (leading + t) x 1074) p

signed-fields : (x t : ℕ) → lt zero-point (of_fields binary64 true x t) ≡ true → ⊥
unfolding of_fields
signed-fields zero t p = signed-value (odd 53 true t 0 1074) (t * 2 ^ 0) (2 ^ 1074) (odd_sign 53 true t 0 1074) p
signed-fields (suc x) t p = signed-field x t (eqb (suc x) 2047) (eqb t 0) p

full-pattern : (t : ℕ) → lt zero-point (of_fields binary64 false 2047 t) ≡ true → of_fields binary64 false 2047 t ≡ inf false
unfolding of_fields
full-pattern t p = full-field t (eqb t 0) p

-- a number above 0 with such a pattern is infinity
pub infinite : (b : ℕ) → infinity ≤ b → lt zero-point (of_bits binary64 b) ≡ true → of_bits binary64 b ≡ inf false
unfolding of_bits
infinite b h p =
    ⊎_elim
    (λ (l : b < sign).
    let t = b % leading in
    let whole : 2047 * leading + t ≡ b = omega arith in
    let is : of_bits binary64 b ≡ of_fields binary64 false 2047 t = ap (of_bits binary64) (sym whole) ∙ bits-are-fields 2047 t (omega arith) (omega arith) in
    is ∙ full-pattern t (subst (λ (y : Float). lt zero-point y ≡ true) is p))
    (λ (l : sign ≤ b).
    absurd (signed-fields (b % sign / leading) (b % leading) (subst (λ (s : Bool). lt zero-point (of_fields binary64 s (b % sign / leading) (b % leading)) ≡ true) (le-leb sign b l) p)))
    (lt-or-le b sign)
