-- Finite numbers without sign stand in the order of their bit patterns. A number's magnitude in units of the least binary64 above 0 is a whole number; its pattern never falls as that grows, and two
-- numbers never share one.
-- Assumes nothing.
use Prim.Native.Nat.{ℕ, zero, suc, ◌+◌, ◌-◌, ◌*◌, ◌/◌, ◌%◌, ◌^◌, ◌≤◌, ◌<◌}
use mathlib.Core.Bool.{Bool, true, false, not, ◌&&◌, ◌||◌, false≢true}
use mathlib.Core.Logic.{⊎_elim}
use mathlib.Core.Path.{◌≡◌, refl, sym, ap, ◌∙◌, subst}
use native.Mathlib.Nat.{le_trans, le_of_eq, le_refl, le_of_lt, lt_of_lt_of_le, lt_of_le_of_lt, eq-or-lt_of_le, lt_irrefl}
use native.Mathlib.Nat.{mul-le-mul_right, mul_assoc, mul_right_comm, mul-pos, mul-lt-mul_of_pos_right, le_of_mul-le-mul_right, lt_of_mul-lt-mul_right}
use native.Mathlib.Nat.{zero-add, zero-mul, zero-div, mul-div_cancel, le-div_iff_mul-le, mod-eq_of_lt}
use native.Mathlib.Omega.{arith}
use borrow.Author.Tests.{lt-ltb, le-ltb, eq-eqb, ne_eqb}
use lib.Dec.{T, ltb, leb, eqb, leb→le, ltb→lt, lit≤}
use lib.IntN.{pos, negsuc}
use lib.Pow.{pow-add, pow_pos, pow-lt, shr_mono}
use lib.Ieee.{Float, nan, inf, fin, binary64, up, down, size, lt, le, eq, fits, is_nan, nan_bits, of_bits, to_bits}
use lib.Ieee.Bits.{of_bits-to_bits, to_bits-of_bits, of_bits-fits, nan_bits_is, nan_bits_above}
use lib.Ieee.Digits.{size-lt, size-le, size_reaches, back}
use lib.Ieee.Fits.{kept-lt, down_pos, and_l, and_r}
use lib.Ieee.Order.{transfer}
use lib.Ieee.Positive.{num, den, den_pos}
use lib.Ieee.Scale.{finite}
use Rattle.laws.proofs.Cases.{lt-or-le}
use Rattle.median.specs.Inner.{Plain, unsigned}

-- ---- the pattern of a magnitude

abbrev pattern_of : ℕ → ℕ
pattern_of n = (size n - 53) * 2 ^ 52 + n / 2 ^ (size n - 53)

size_mono : (a b : ℕ) → a ≤ b → size a ≤ size b
size_mono a b h = size-le a (size b) (lt_of_le_of_lt h (size-lt b))

-- all digits in use where some are dropped
reached : (n : ℕ) → 0 < size n - 53 → 2 ^ 52 ≤ n / 2 ^ (size n - 53)
reached n h =
    (le-div_iff_mul-le (pow_pos (size n - 53))).1
    (le_trans (le_of_eq (sym (pow-add 2 52 (size n - 53)))) (size_reaches n (52 + (size n - 53)) (omega arith)))

-- j dropped digits or k: the fields alone decide
further : (j k a b : ℕ) → j < k → a < 2 ^ 53 → 2 ^ 52 ≤ b → j * 2 ^ 52 + a ≤ k * 2 ^ 52 + b
further j k a b h l m = omega arith

pattern-rises : (a b : ℕ) → a ≤ b → pattern_of a ≤ pattern_of b
pattern-rises a b h =
    let s = size_mono a b h in
    let f : size a - 53 ≤ size b - 53 = omega arith in
    ⊎_elim
    (λ (e : size a - 53 ≡ size b - 53).
    let d : a / 2 ^ (size b - 53) ≤ b / 2 ^ (size b - 53) = shr_mono (size b - 53) h in
    rw e (let z : (size b - 53) * 2 ^ 52 + a / 2 ^ (size b - 53) ≤ (size b - 53) * 2 ^ 52 + b / 2 ^ (size b - 53) = omega arith in z))
    (λ (l : size a - 53 < size b - 53).
    further (size a - 53) (size b - 53) (a / 2 ^ (size a - 53)) (b / 2 ^ (size b - 53)) l (kept-lt 53 a) (reached b (omega arith)))
    (eq-or-lt_of_le f)

-- ---- a number's magnitude

abbrev units : Float → ℕ
units x = num x * 2 ^ 1074 / den x

-- what a fraction's lower part divides, it divides without rest
whole_part : (a k l : ℕ) → k ≤ l → a * 2 ^ l / 2 ^ k * 2 ^ k ≡ a * 2 ^ l
whole_part a k l h =
    let e : a * 2 ^ l ≡ a * 2 ^ (l - k) * 2 ^ k =
    ap (λ (n : ℕ). a * 2 ^ n) (sym (back l k h)) ∙ ap (λ (n : ℕ). a * n) (pow-add 2 (l - k) k) ∙ sym (mul_assoc a (2 ^ (l - k)) (2 ^ k)) in
    ap (λ (n : ℕ). n / 2 ^ k * 2 ^ k) e ∙ ap (λ (n : ℕ). n * 2 ^ k) (mul-div_cancel (a * 2 ^ (l - k)) (pow_pos k)) ∙ sym e

units-exact : (x : Float) → Plain x → units x * den x ≡ num x * 2 ^ 1074
unfolding fits
units-exact nan p = absurd (false≢true p.ends)
units-exact (inf s) p = absurd (false≢true p.ends)
units-exact (fin s m (pos k)) p = whole_part (m * 2 ^ k) 0 1074 (lit≤ tt)
units-exact (fin s zero (negsuc k)) p = rw (zero-div (2 ^ suc k)) (zero-mul (2 ^ suc k))
units-exact (fin s (suc m) (negsuc k)) p =
    let small : 2 ^ suc k ≤ 2 ^ 1074 =
    leb→le (2 ^ suc k) (2 ^ 1074) (and_r (eqb (suc m % 2) 1 && ltb (suc m) (2 ^ 53)) (leb (2 ^ suc k) (2 ^ 1074))
    (and_l (eqb (suc m % 2) 1 && ltb (suc m) (2 ^ 53) && leb (2 ^ suc k) (2 ^ 1074)) (ltb (suc m * 1) (2 ^ 1024 * 2 ^ suc k)) p.held)) in
    whole_part (suc m * 1) (suc k) 1074
    (⊎_elim
    (λ (h : 1074 < suc k). absurd (lt_irrefl (2 ^ 1074) (lt_of_lt_of_le (pow-lt h) small)))
    (λ (h : suc k ≤ 1074). h)
    (lt-or-le 1074 (suc k)))

bits-of-units : (x : Float) → Plain x → to_bits binary64 x ≡ pattern_of (units x)
unfolding to_bits
bits-of-units nan p = absurd (false≢true p.ends)
bits-of-units (inf s) p = absurd (false≢true p.ends)
bits-of-units (fin true m e) p = absurd (false≢true p.bare)
bits-of-units (fin false m e) p = ap (λ (n : ℕ). n + units (fin false m e) / 2 ^ (size (units (fin false m e)) - 53)) (zero-add ((size (units (fin false m e)) - 53) * 2 ^ 52))

-- ---- the order

-- magnitudes in order are fractions in order, and the other way round
module _ (x y : Float) (p : Plain x) (q : Plain y) where
  fractions-rise : units x ≤ units y → num x * den y ≤ num y * den x
  fractions-rise h =
      transfer (num x) (num y) (den x) (den y) (units x) (units y) (2 ^ 1074) (2 ^ 1074) (pow_pos 1074) (pow_pos 1074) (sym (units-exact x p)) (sym (units-exact y q))
      (mul-le-mul_right (2 ^ 1074) h)

  units-rise : num x * den y ≤ num y * den x → units x ≤ units y
  units-rise h =
      le_of_mul-le-mul_right
      (transfer (units x) (units y) (2 ^ 1074) (2 ^ 1074) (num x) (num y) (den x) (den y) (den_pos x) (den_pos y) (units-exact x p) (units-exact y q) h)
      (pow_pos 1074)

  bits-rise : num x * den y ≤ num y * den x → to_bits binary64 x ≤ to_bits binary64 y
  bits-rise h = rw (bits-of-units x p, bits-of-units y q) (pattern-rises (units x) (units y) (units-rise h))

pub one-pattern : (x y : Float) → Plain x → Plain y → to_bits binary64 x ≡ to_bits binary64 y → x ≡ y
one-pattern x y p q e = sym (of_bits-to_bits binary64 x p.held) ∙ ap (of_bits binary64) e ∙ of_bits-to_bits binary64 y q.held

module _ (x y : Float) (p : Plain x) (q : Plain y) where
  fractions-of-bits : to_bits binary64 x < to_bits binary64 y → num x * den y < num y * den x
  fractions-of-bits h =
      ⊎_elim
      (λ (l : num x * den y < num y * den x). l)
      (λ (l : num y * den x ≤ num x * den y). let b = bits-rise y x q p l in absurd (omega arith))
      (lt-or-le (num x * den y) (num y * den x))

  fractions-of-bits-le : to_bits binary64 x ≤ to_bits binary64 y → num x * den y ≤ num y * den x
  fractions-of-bits-le h =
      ⊎_elim
      (λ (e : to_bits binary64 x ≡ to_bits binary64 y). subst (λ (z : Float). num x * den z ≤ num z * den x) (one-pattern x y p q e) (le_refl (num x * den x)))
      (λ (l : to_bits binary64 x < to_bits binary64 y). le_of_lt (fractions-of-bits l))
      (eq-or-lt_of_le h)

lt-fractions : (x y : Float) → Plain x → Plain y → lt x y ≡ ltb (num x * den y) (num y * den x)
unfolding lt
lt-fractions nan y p q = absurd (false≢true p.ends)
lt-fractions (inf s) y p q = absurd (false≢true p.ends)
lt-fractions (fin true m e) y p q = absurd (false≢true p.bare)
lt-fractions (fin false m e) nan p q = absurd (false≢true q.ends)
lt-fractions (fin false m e) (inf t) p q = absurd (false≢true q.ends)
lt-fractions (fin false m e) (fin true n d) p q = absurd (false≢true q.bare)
lt-fractions (fin false m e) (fin false n d) p q = refl

eq-fractions : (x y : Float) → Plain x → Plain y → eq x y ≡ (eqb (num x * den y) (num y * den x) && true)
unfolding eq
eq-fractions nan y p q = absurd (false≢true p.ends)
eq-fractions (inf s) y p q = absurd (false≢true p.ends)
eq-fractions (fin true m e) y p q = absurd (false≢true p.bare)
eq-fractions (fin false m e) nan p q = absurd (false≢true q.ends)
eq-fractions (fin false m e) (inf t) p q = absurd (false≢true q.ends)
eq-fractions (fin false m e) (fin true n d) p q = absurd (false≢true q.bare)
eq-fractions (fin false m e) (fin false n d) p q = refl

at_most : (a b : ℕ) → (ltb a b || (eqb a b && true)) ≡ not (ltb b a)
at_most a b =
    ⊎_elim
    (λ (h : b < a). let l : b ≤ a = omega arith in let n : a ≡ b → ⊥ = λ e. lt_irrefl a (rw (← e) at h) in rw (lt-ltb b a h, le-ltb a b l, ne_eqb a b n))
    (λ (h : a ≤ b).
    rw (le-ltb b a h)
    (⊎_elim
    (λ (e : a ≡ b). let l : b ≤ a = omega arith in rw (eq-eqb a b e, le-ltb a b l))
    (λ (l : a < b). rw (lt-ltb a b l))
    (eq-or-lt_of_le h)))
    (lt-or-le b a)

module _ (x y : Float) (p : Plain x) (q : Plain y) where
  pub lt-of-bits : lt x y ≡ ltb (to_bits binary64 x) (to_bits binary64 y)
  lt-of-bits =
      lt-fractions x y p q
      ∙ ⊎_elim
      (λ (h : to_bits binary64 x < to_bits binary64 y). lt-ltb (num x * den y) (num y * den x) (fractions-of-bits x y p q h) ∙ sym (lt-ltb (to_bits binary64 x) (to_bits binary64 y) h))
      (λ (h : to_bits binary64 y ≤ to_bits binary64 x). le-ltb (num x * den y) (num y * den x) (fractions-of-bits-le y x q p h) ∙ sym (le-ltb (to_bits binary64 x) (to_bits binary64 y) h))
      (lt-or-le (to_bits binary64 x) (to_bits binary64 y))

pub le-of-bits : (x y : Float) → Plain x → Plain y → le x y ≡ not (ltb (to_bits binary64 y) (to_bits binary64 x))
unfolding le
le-of-bits x y p q =
    ap (λ (b : Bool). b || eq x y) (lt-fractions x y p q)
    ∙ ap (λ (b : Bool). ltb (num x * den y) (num y * den x) || b) (eq-fractions x y p q)
    ∙ at_most (num x * den y) (num y * den x)
    ∙ ap not (sym (lt-fractions y x q p) ∙ lt-of-bits y x q p)

-- ---- which patterns there are

-- infinity's
abbrev pub infinite : ℕ
infinite = 0x7ff0_0000_0000_0000

num-below : (x : Float) → Plain x → num x < 2 ^ 1024 * den x
unfolding fits
num-below nan p = absurd (false≢true p.ends)
num-below (inf s) p = absurd (false≢true p.ends)
num-below (fin s zero e) p = rw (zero-mul (up e)) (mul-pos (pow_pos 1024) (down_pos e))
num-below (fin s (suc m) e) p =
    ltb→lt (suc m * up e) (2 ^ 1024 * down e)
    (and_r (eqb (suc m % 2) 1 && ltb (suc m) (2 ^ 53) && leb (down e) (2 ^ 1074)) (ltb (suc m * up e) (2 ^ 1024 * down e)) p.held)

scaled : (n a b d : ℕ) → 0 < b → n < a * d → n * b < a * b * d
scaled n a b d b0 h = rw (mul_right_comm a b d) (mul-lt-mul_of_pos_right h b0)

units-below : (x : Float) → Plain x → units x < 2 ^ 2098
units-below x p =
    lt_of_mul-lt-mul_right (den x)
    (rw (units-exact x p) (scaled (num x) (2 ^ 1024) (2 ^ 1074) (den x) (pow_pos 1074) (num-below x p)))

pub bits_below : (x : Float) → Plain x → to_bits binary64 x < infinite
bits_below x p =
    let n = units x in
    let s : size n ≤ 2098 = size-le n 2098 (units-below x p) in
    let k = kept-lt 53 n in
    rw (bits-of-units x p) (let z : (size n - 53) * 2 ^ 52 + n / 2 ^ (size n - 53) < 0x7ff0_0000_0000_0000 = omega arith in z)

-- infinity and the numbers with a sign have none below infinity's
plain-of-bits : (x : Float) → is_nan x ≡ false → to_bits binary64 x < infinite → (unsigned x ≡ true) × (finite x ≡ true)
unfolding is_nan to_bits
plain-of-bits nan e h = absurd (false≢true (sym e))
plain-of-bits (inf true) e h = absurd (omega arith)
plain-of-bits (inf false) e h = absurd (omega arith)
plain-of-bits (fin true m e) n h = absurd (omega arith)
plain-of-bits (fin false m e) n h = (refl, refl)

-- below infinity's, each is that of a finite number without sign
module _ (b : ℕ) (h : b < infinite) where
  pub no_nan : nan_bits binary64 b ≡ false
  no_nan =
      let l : b < 2 ^ 63 = omega arith in
      nan_bits_above binary64 b ∙ rw (mod-eq_of_lt l) (le-ltb infinite b (le_of_lt h))

  no-nan-read : is_nan (of_bits binary64 b) ≡ false
  no-nan-read = sym (nan_bits_is binary64 b) ∙ no_nan

  pub bits_back : to_bits binary64 (of_bits binary64 b) ≡ b
  bits_back = to_bits-of_bits binary64 b (omega arith) (subst (λ (t : Bool). T (not t)) (sym no-nan-read) tt)

  pub plain-below : Plain (of_bits binary64 b)
  plain-below =
      let k = plain-of-bits (of_bits binary64 b) no-nan-read (rw bits_back h) in
      record { held = of_bits-fits binary64 b; bare = k.0; ends = k.1 }

-- a number that another lies below is none that isn't a number
pub above-is-no-nan : (y x : Float) → lt y x ≡ true → T (not (is_nan x))
unfolding lt is_nan
above-is-no-nan nan nan p = absurd (subst T (sym p) tt)
above-is-no-nan (inf t) nan p = absurd (subst T (sym p) tt)
above-is-no-nan (fin t n k) nan p = absurd (subst T (sym p) tt)
above-is-no-nan y (inf s) p = tt
above-is-no-nan y (fin s m e) p = tt
