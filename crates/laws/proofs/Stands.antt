-- Sums, differences and products of numbers that stand for whole numbers over powers of two: each operation is one rounding of the whole-number result, and a whole number of at most
-- 2 ^ 53 over a power that the format reaches isn't rounded. The rounding stays folded in `over`, so that only its end asks for the 2 ^ 53.
-- Assumes nothing.
use Prim.Native.Nat.{ℕ, zero, suc, ◌+◌, ◌-◌, ◌*◌, ◌^◌, ◌≤◌, ◌<◌, zero-le}
use mathlib.Core.Bool.{Bool, true, false, not}
use mathlib.Core.Logic.{◌⊎◌, ⊎_elim}
use mathlib.Core.Path.{◌≡◌, refl, sym, ap, ◌∙◌}
use native.Mathlib.Nat.{eq-or-lt_of_le, mul_assoc, mul_comm, mul-one, one-mul, lt_of_lt_of_le, lt_irrefl, zero-lt-suc, mul-pos}
use native.Mathlib.Omega.{arith}
use borrow.Author.Tests.{lt-ltb, le-ltb}
use lib.Dec.{lit<}
use lib.IntN.{ℤ, pos, negsuc, neg_ℤ, nat_abs, sub_ℕ, ◌+ℤ◌, ◌-ℤ◌, ◌*ℤ◌, *ℤ_comm}
use lib.Pow.{pow-add, pow_pos, pow_mono, pow-lt, shl_lt}
use lib.Ieee.{Float, Format, binary64, unlike, round, sum, of_int}
use lib.Ieee.Digits.{back}
use lib.Ieee.Exact.{HasValue, round_exact}
use lib.Ieee.Fits.{round-fits}
use Rattle.laws.specs.Binary64.{◌⊕◌, ◌⊖◌, ◌⊗◌, ◌⊘◌}
use Rattle.laws.proofs.Cases.{lt-or-le}
use Rattle.laws.proofs.Signed.{nat_abs-neg}
use Rattle.laws.specs.Signed.{negative}
use Rattle.laws.specs.Stands.{whole_limit, least_power, Stands}
use Rattle.laws.proofs.Value.{add-of-values, sub-of-values, mul-of-values, div-of-values, one_number, enlarged}

-- z / 2 ^ s, rounded once
abbrev pub over : ℕ → ℤ → Float
over s z = round binary64 (negative z) (nat_abs z) (2 ^ s)

-- ---- no rounding

below-exact : (s n : ℕ) (b : Bool) → s ≤ least_power → n < whole_limit → HasValue (round binary64 b n (2 ^ s)) b n (2 ^ s)
below-exact s n b h l =
    round_exact binary64 b n (2 ^ s) n (1074 - s) (pow_pos s) l
    (lt_of_lt_of_le (shl_lt 53 (1074 - s) l) (pow_mono (let k : 53 + (1074 - s) ≤ 2098 = omega arith in k)))
    (ap (λ (k : ℕ). n * 2 ^ k) (sym (back 1074 s h)) ∙ ap (λ (k : ℕ). n * k) (pow-add 2 (1074 - s) s) ∙ sym (mul_assoc n (2 ^ (1074 - s)) (2 ^ s)))

gap : (p l s : ℕ) → s ≤ l → 2 ^ p * 2 ^ l ≡ 1 * 2 ^ (p + (l - s)) * 2 ^ s
gap p l s h =
    sym (pow-add 2 p l)
    ∙ ap (λ (k : ℕ). 2 ^ k) (let e : p + l ≡ p + (l - s) + s = omega arith in e)
    ∙ pow-add 2 (p + (l - s)) s
    ∙ ap (λ (k : ℕ). k * 2 ^ s) (sym (one-mul (2 ^ (p + (l - s)))))

top-exact : (s : ℕ) (b : Bool) → s ≤ least_power → HasValue (round binary64 b whole_limit (2 ^ s)) b whole_limit (2 ^ s)
top-exact s b h =
    round_exact binary64 b whole_limit (2 ^ s) 1 (53 + (1074 - s)) (pow_pos s) (lit< tt)
    (rw (one-mul (2 ^ (53 + (1074 - s)))) (pow-lt (let k : 53 + (1074 - s) < 2098 = omega arith in k)))
    (gap 53 1074 s h)

pub over-stands : (s : ℕ) (z : ℤ) → s ≤ least_power → nat_abs z ≤ whole_limit → Stands s z (over s z)
over-stands s z h l =
    record {
      held = round-fits binary64 (negative z) (nat_abs z) (2 ^ s);
      value =
          ⊎_elim
          (λ (e : nat_abs z ≡ whole_limit). rw e (top-exact s (negative z) h))
          (λ (k : nat_abs z < whole_limit). below-exact s (nat_abs z) (negative z) h k)
          (eq-or-lt_of_le l);
    }

pub of_int-stands : (z : ℤ) → nat_abs z ≤ whole_limit → Stands 0 z (of_int binary64 z)
unfolding of_int
of_int-stands (pos n) l = over-stands 0 (pos n) zero-le l
of_int-stands (negsuc n) l = over-stands 0 (negsuc n) zero-le l

-- what stands for one whole number over one power is one number
pub stands-once : {s : ℕ} {z : ℤ} {x y : Float} → Stands s z x → Stands s z y → x ≡ y
stands-once {s} {z} {x} {y} p q = one_number binary64 x y (negative z) (nat_abs z) (2 ^ s) (pow_pos s) p.held q.held p.value q.value

pub stands-as : {s : ℕ} {z : ℤ} {x y : Float} → x ≡ y → Stands s z y → Stands s z x
stands-as {s} {z} e p = rw e p

-- ---- whole-number results

module _ (f : Format) (c : ℕ) where
  abbrev rounded : ℤ → Float
  rounded z = round f (negative z) (nat_abs z) c

  unlike-signs : (a b : ℕ) → sum f false a true (suc b) c ≡ rounded (sub_ℕ a (suc b))
  unfolding sum
  unlike-signs a b =
      ⊎_elim
      (λ (h : a < suc b). rw (lt-ltb a (suc b) h) (ap (λ (n : ℕ). round f true n c) (let e : suc b - a ≡ suc (suc b - suc a) = omega arith in e)))
      (λ (h : suc b ≤ a). rw (le-ltb a (suc b) h))
      (lt-or-le a (suc b))

  signs-unlike : (a b : ℕ) → sum f true (suc a) false b c ≡ rounded (sub_ℕ b (suc a))
  unfolding sum
  signs-unlike a b =
      ⊎_elim
      (λ (h : b < suc a).
      let k : b ≤ suc a = omega arith in
      rw (lt-ltb b (suc a) h, le-ltb (suc a) b k) (ap (λ (n : ℕ). round f true n c) (let e : suc a - b ≡ suc (suc a - suc b) = omega arith in e)))
      (λ (h : suc a ≤ b).
      rw (le-ltb b (suc a) h)
      (⊎_elim
      (λ (l : suc a < b). rw (lt-ltb (suc a) b l))
      (λ (l : b ≤ suc a). rw (le-ltb (suc a) b l) (ap (λ (n : ℕ). round f false n c) (let e : suc a - b ≡ b - suc a = omega arith in e)))
      (lt-or-le (suc a) b)))
      (lt-or-le b (suc a))

  pub whole_sum : (z w : ℤ) → sum f (negative z) (nat_abs z) (negative w) (nat_abs w) c ≡ rounded (z +ℤ w)
  unfolding sum
  whole_sum (pos a) (pos b) = refl
  whole_sum (pos a) (negsuc b) = unlike-signs a b
  whole_sum (negsuc a) (pos b) = signs-unlike a b
  whole_sum (negsuc a) (negsuc b) = ap (λ (n : ℕ). round f true n c) (let e : suc a + suc b ≡ suc (suc (a + b)) = omega arith in e)

  -- what is taken away from a number as −0 leaves it too
  pub whole-difference : (z w : ℤ) → sum f (negative z) (nat_abs z) (not (negative w)) (nat_abs w) c ≡ rounded (z -ℤ w)
  unfolding sum
  whole-difference (pos a) (pos zero) = rw (le-ltb a 0 zero-le) (ap (λ (n : ℕ). round f false n c) (let e : a - 0 ≡ a + 0 = omega arith in e))
  whole-difference (negsuc a) (pos zero) = rw (lt-ltb 0 (suc a) (zero-lt-suc a)) (ap (λ (n : ℕ). round f true n c) (let e : suc a + 0 ≡ suc (suc a - 1) = omega arith in e))
  whole-difference z (pos (suc b)) = whole_sum z (negsuc b)
  whole-difference z (negsuc b) = whole_sum z (pos (suc b))

negated : (n : ℕ) → 0 < n → negative (neg_ℤ (pos n)) ≡ true
negated zero h = absurd (lt_irrefl 0 h)
negated (suc n) h = refl

-- a factor above 0 leaves the sign
pub product-sign : (z : ℤ) (k : ℕ) → 0 < k → negative (z *ℤ pos k) ≡ negative z
product-sign (pos a) k h = refl
product-sign (negsuc a) k h = negated (suc a * k) (mul-pos (zero-lt-suc a) h)

pub product-size : (z : ℤ) (k : ℕ) → nat_abs (z *ℤ pos k) ≡ nat_abs z * k
product-size (pos a) k = refl
product-size (negsuc a) k = nat_abs-neg (pos (suc a * k))

unlike-right : (b : Bool) → unlike b false ≡ b
unlike-right true = refl
unlike-right false = refl

unlike-left : (b : Bool) → unlike false b ≡ b
unlike-left true = refl
unlike-left false = refl

-- a fraction by a number above 0, as the whole number over its power
whole-product : (z : ℤ) (k s t : ℕ) → 0 < k → round binary64 (negative z) (nat_abs z * k) (2 ^ s * 2 ^ t) ≡ over (s + t) (z *ℤ pos k)
whole-product z k s t h = rw (pow-add 2 s t, product-sign z k h, product-size z k)

-- ---- exact operations

module _ {s : ℕ} {z w : ℤ} {x y : Float} (low : s ≤ least_power) (p : Stands s z x) (q : Stands s w y) where
  pub add-exact : nat_abs (z +ℤ w) ≤ whole_limit → Stands s (z +ℤ w) (x ⊕ y)
  add-exact l =
      stands-as
      (add-of-values binary64 x y (negative z) (negative w) (nat_abs z) (nat_abs w) (2 ^ s) (pow_pos s) p.value q.value ∙ whole_sum binary64 (2 ^ s) z w)
      (over-stands s (z +ℤ w) low l)

  pub sub-exact : nat_abs (z -ℤ w) ≤ whole_limit → Stands s (z -ℤ w) (x ⊖ y)
  sub-exact l =
      stands-as
      (sub-of-values binary64 x y (negative z) (negative w) (nat_abs z) (nat_abs w) (2 ^ s) (pow_pos s) p.value q.value ∙ whole-difference binary64 (2 ^ s) z w)
      (over-stands s (z -ℤ w) low l)

-- a product by a number above 0: +0 times a number below 0 would be −0
module _ {s t : ℕ} {z : ℤ} {k : ℕ} {x y : Float} (low : s + t ≤ least_power) (p : Stands s z x) (above : 0 < k) (q : Stands t (pos k) y) (room : nat_abs (z *ℤ pos k) ≤ whole_limit) where
  product-stands : Stands (s + t) (z *ℤ pos k) (over (s + t) (z *ℤ pos k))
  product-stands = over-stands (s + t) (z *ℤ pos k) low room

  pub mul-exact : Stands (s + t) (z *ℤ pos k) (x ⊗ y)
  mul-exact =
      stands-as
      (mul-of-values binary64 x y (negative z) false (nat_abs z) k (2 ^ s) (2 ^ t) (pow_pos s) (pow_pos t) p.value q.value
      ∙ rw (unlike-right (negative z)) (whole-product z k s t above))
      product-stands

  -- the same with the factors exchanged
  pub mul-exact-by : Stands (s + t) (pos k *ℤ z) (y ⊗ x)
  mul-exact-by =
      rw (*ℤ_comm (pos k) z)
      (stands-as
      (mul-of-values binary64 y x false (negative z) k (nat_abs z) (2 ^ t) (2 ^ s) (pow_pos t) (pow_pos s) q.value p.value
      ∙ rw (unlike-left (negative z), mul_comm k (nat_abs z), mul_comm (2 ^ t) (2 ^ s)) (whole-product z k s t above))
      product-stands)

-- a quotient by a power of two
pub div-exact : {s : ℕ} {z : ℤ} {x y : Float} (t : ℕ) → s + t ≤ least_power → Stands s z x → Stands 0 (pos (2 ^ t)) y → nat_abs z ≤ whole_limit → Stands (s + t) z (x ⊘ y)
div-exact {s} {z} {x} {y} t low p q room =
    stands-as
    (div-of-values binary64 x y (negative z) false (nat_abs z) (2 ^ t) (2 ^ s) 1 (pow_pos t) (pow_pos s) (zero-lt-suc 0) p.value q.value
    ∙ rw (unlike-right (negative z), mul-one (nat_abs z), mul_comm (2 ^ t) (2 ^ s), ← pow-add 2 s t))
    (over-stands (s + t) z low room)

-- the same number over a higher power
pub finer : {s : ℕ} {z : ℤ} {x : Float} (t : ℕ) → Stands s z x → Stands (s + t) (z *ℤ pos (2 ^ t)) x
finer {s} {z} {x} t p =
    record {
      held = p.held;
      value = rw (pow-add 2 s t, product-sign z (2 ^ t) (pow_pos t), product-size z (2 ^ t)) (enlarged x (negative z) (nat_abs z) (2 ^ s) (2 ^ t) p.value);
    }
