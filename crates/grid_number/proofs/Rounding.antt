-- Cutting twice a magnitude, adding one and halving rounds it half away from zero; from 2 ^ 31 on the limit is the answer.
-- Assumes nothing.
use Rattle.std.proofs.Common.{◌≡◌, ℕ, zero, suc, ◌+◌, ◌*◌, ◌/◌, ◌<◌, ◌≤◌, min, Bool, true, false, T, ℤ, pos, sym, refl, ap, ◌∙◌, subst, zero-le, le_refl, lt_of_lt_of_le, mul-le-mul_right, div-lt_iff_lt-mul, lt_of_mul-lt-mul_right, mul-lt-mul_of_pos_right, le-div_iff_mul-le, mul_right_comm, arith, lit≤, lt→ltb, pow_mono, ltb-false, ltb-true, lt-ltb}
use native.Mathlib.Nat.{add-div_right, div-div-eq-div-mul, div-eq_of_lt}
use lib.Ieee.{Float, nan, inf, fin, binary64, up, down, lt, neg, add, fits, to_unsigned}
use lib.Ieee.Exact.{HasValue}
use lib.Ieee.Fits.{down_pos}
use lib.Ieee.Nearest.{div_same}
use Rattle.grid_number.specs.GridNumber.{half_away, limit, magnitude, below, held, rounded}
use Rattle.grid_number.proofs.Doubling.{double-exact}

-- ---- whole numbers

-- half of one more than the whole part of twice a fraction
pub half-of-twice : (num den : ℕ) → 0 < den → ((num + num) / den + 1) / 2 ≡ half_away num den
half-of-twice num den h =
    ap (λ (x : ℕ). x / 2) (sym (add-div_right (num + num) h))
    ∙ div-div-eq-div-mul (num + num + den) den 2
    ∙ ap (λ (x : ℕ). (num + num + den) / x) (let e : den * 2 ≡ den + den = omega arith in e)

pub half_away-small : (num den : ℕ) → 0 < den → num < limit * den → half_away num den ≤ limit
half_away-small num den h l =
    let two : 0 < den + den = omega arith in
    let less : num + num + den < suc limit * (den + den) = omega arith in
    let under : (num + num + den) / (den + den) < suc limit = (div-lt_iff_lt-mul two).1 less in
    omega arith

pub half_away-large : (num den : ℕ) → 0 < den → limit * den ≤ num → limit ≤ half_away num den
half_away-large num den h l =
    let two : 0 < den + den = omega arith in
    let more : limit * (den + den) ≤ num + num + den = omega arith in
    (le-div_iff_mul-le two).1 more

pub half_away-zero : (den : ℕ) → 0 < den → half_away 0 den ≡ 0
half_away-zero den h = div-eq_of_lt (omega arith)

-- ---- a fraction's binary64, cut to a whole number

pub record Cut (z : Float) (num den : ℕ) : Type 0 where
  pub above : T (lt (fin true 1 (pos 0)) z)
  pub below : T (lt z (fin false 1 (pos 64)))
  pub whole : to_unsigned 64 z ≡ num / den

capped : (q : ℕ) → q < 18446744073709551616 → min q 18446744073709551615 ≡ q
capped q h = omega arith

under : (x y num den : ℕ) → 0 < y → num < 18446744073709551616 * den → x * den ≡ num * y → x < 18446744073709551616 * y
under x y num den h l e =
    lt_of_mul-lt-mul_right den
    (subst (λ (a : ℕ). a < 18446744073709551616 * y * den) (sym e)
    (subst (λ (a : ℕ). num * y < a) (mul_right_comm 18446744073709551616 den y) (mul-lt-mul_of_pos_right l h)))

pub cut : (z : Float) (num den : ℕ) → 0 < den → num < 18446744073709551616 * den → HasValue z false num den → Cut z num den
unfolding lt to_unsigned
cut nan num den d h v = absurd v
cut (inf s) num den d h v = absurd v
cut (fin true m e) num den d h v = absurd (subst T v.0 tt)
cut (fin false m e) num den d h v =
    let less : m * up e < 18446744073709551616 * down e = under (m * up e) (down e) num den (down_pos e) h v.1 in
    record {
      above = lt→ltb 0 (1 * down e + m * up e * 1) (omega (arith, down_pos e));
      below = lt→ltb (m * up e * 1) (18446744073709551616 * down e) (omega arith);
      whole =
          capped (m * up e / down e) ((div-lt_iff_lt-mul (down_pos e)).1 less)
          ∙ div_same (m * up e) (down e) num den (down_pos e) d v.1;
    }

-- ---- a positive number below the limit, or from it on

-- 2 ^ 31
abbrev reach : Float
reach = fin false 1 (pos 31)

-- 0.0
abbrev zero-point : Float
zero-point = fin false 0 (pos 0)

pub record Halved (y : Float) : Type 0 where
  pub twice : ℕ
  pub above : T (lt (fin true 1 (pos 0)) (add binary64 y y))
  pub below : T (lt (add binary64 y y) (fin false 1 (pos 64)))
  pub whole : to_unsigned 64 (add binary64 y y) ≡ twice
  pub small : twice ≤ 4294967296
  pub is : (twice + 1) / 2 ≡ magnitude y

under-cap : (x c : ℕ) → x ≤ c → x ≡ min x c
under-cap x c h = omega arith

over-cap : (x c : ℕ) → c ≤ x → min x c ≡ c
over-cap x c h = omega arith

halved-fin : (m : ℕ) (e : ℤ) → T (fits binary64 (fin false (suc m) e)) → suc m * up e < limit * down e → Halved (fin false (suc m) e)
unfolding magnitude
halved-fin m e t h =
    let s = suc m * up e in
    let d = down e in
    let v : HasValue (add binary64 (fin false (suc m) e) (fin false (suc m) e)) false (s + s) d =
    double-exact binary64 m e t (lt_of_lt_of_le h (mul-le-mul_right d (pow_mono {i = 31} {j = 1023} (lit≤ tt)))) in
    let less : s + s < 4294967297 * d = omega (arith, down_pos e) in
    let whole-less : (s + s) / d < 4294967297 = (div-lt_iff_lt-mul (down_pos e)).1 less in
    let c = cut (add binary64 (fin false (suc m) e) (fin false (suc m) e)) (s + s) d (down_pos e) (omega arith) v in
    record {
      twice = (s + s) / d;
      above = c.above;
      below = c.below;
      whole = c.whole;
      small = omega arith;
      is = half-of-twice s d (down_pos e) ∙ under-cap (half_away s d) limit (half_away-small s d (down_pos e) h);
    }

pub halved : (y : Float) → T (fits binary64 y) → lt zero-point y ≡ true → lt y reach ≡ true → Halved y
unfolding lt
halved nan t p h = absurd (subst T (sym p) tt)
halved (inf false) t p h = absurd (subst T (sym h) tt)
halved (inf true) t p h = absurd (subst T (sym p) tt)
halved (fin true m e) t p h = absurd (subst T (sym p) tt)
halved (fin false zero e) t p h = absurd (omega (arith, ltb-true (0 * down e) (0 * up e * 1) p))
halved (fin false (suc m) e) t p h = halved-fin m e t (omega (arith, ltb-true (suc m * up e * 1) (limit * down e) h))

-- from the limit on
pub at-limit : (y : Float) → lt zero-point y ≡ true → lt y reach ≡ false → magnitude y ≡ limit
unfolding lt magnitude
at-limit nan p h = absurd (subst T (sym p) tt)
at-limit (inf false) p h = refl
at-limit (inf true) p h = absurd (subst T (sym p) tt)
at-limit (fin true m e) p h = absurd (subst T (sym p) tt)
at-limit (fin false m e) p h =
    over-cap (half_away (m * up e) (down e)) limit
    (half_away-large (m * up e) (down e) (down_pos e) (omega (arith, ltb-false (m * up e * 1) (limit * down e) h)))

pub magnitude-le : (y : Float) → magnitude y ≤ limit
unfolding magnitude
magnitude-le nan = zero-le
magnitude-le (inf s) = le_refl limit
magnitude-le (fin s m e) = capped_le (half_away (m * up e) (down e)) limit
  where
    capped_le : (x c : ℕ) → min x c ≤ c
    capped_le x c = omega arith

-- ---- signs

pub above-zero-sign : (y : Float) → lt zero-point y ≡ true → below y ≡ false
unfolding lt
above-zero-sign nan p = refl
above-zero-sign (inf false) p = refl
above-zero-sign (inf true) p = absurd (subst T (sym p) tt)
above-zero-sign (fin false m e) p = refl
above-zero-sign (fin true m e) p = absurd (subst T (sym p) tt)

pub below-zero-sign : (y : Float) → lt y zero-point ≡ true → below y ≡ true
unfolding lt
below-zero-sign nan p = absurd (subst T (sym p) tt)
below-zero-sign (inf false) p = absurd (subst T (sym p) tt)
below-zero-sign (inf true) p = refl
below-zero-sign (fin true m e) p = refl
below-zero-sign (fin false m e) p = absurd (omega (arith, ltb-true (m * up e * 1) (0 * down e) p))

pub negation-above-zero : (y : Float) → lt y zero-point ≡ true → lt zero-point (neg y) ≡ true
unfolding lt neg
negation-above-zero nan p = p
negation-above-zero (inf false) p = p
negation-above-zero (inf true) p = refl
negation-above-zero (fin true m e) p = lt-ltb (0 * down e) (m * up e * 1) (omega (arith, ltb-true 0 (m * up e * 1 + 0 * down e) p))
negation-above-zero (fin false m e) p = absurd (omega (arith, ltb-true (m * up e * 1) (0 * down e) p))

pub magnitude-neg : (y : Float) → magnitude (neg y) ≡ magnitude y
unfolding magnitude neg
magnitude-neg nan = refl
magnitude-neg (inf s) = refl
magnitude-neg (fin s m e) = refl

no_size : (y : ℕ) → 0 < y → min (half_away 0 y) limit ≡ 0
no_size y h = rw (half_away-zero y h)

none : (s : Bool) (m : ℕ) (e : ℤ) → m * up e ≡ 0 → held s (min (half_away (m * up e) (down e)) limit) ≡ pos 0
none true m e h = rw (h, no_size (down e) (down_pos e))
none false m e h = rw (h, no_size (down e) (down_pos e))

-- a zero of either sign and a not-a-number are neither above nor below zero
pub neither-rounds-to-zero : (y : Float) → lt zero-point y ≡ false → lt y zero-point ≡ false → rounded y ≡ pos 0
unfolding lt rounded magnitude
neither-rounds-to-zero nan p q = refl
neither-rounds-to-zero (inf false) p q = absurd (subst T p tt)
neither-rounds-to-zero (inf true) p q = absurd (subst T q tt)
neither-rounds-to-zero (fin false m e) p q = none false m e (omega (arith, ltb-false (0 * down e) (m * up e * 1) p))
neither-rounds-to-zero (fin true m e) p q = none true m e (omega (arith, ltb-false 0 (m * up e * 1 + 0 * down e) q))
