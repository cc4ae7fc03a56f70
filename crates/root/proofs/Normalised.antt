-- Every finite number above 0 is a significand by a power of two, so its root is one too: finite, and of 53 digits.
-- Assumes nothing.
use Prim.Native.Nat.{ℕ, suc, ◌+◌, ◌-◌, ◌*◌, ◌/◌, ◌%◌, ◌^◌, ◌≤◌, ◌<◌}
use mathlib.Core.Bool.{true, false}
use mathlib.Core.Logic.{⊎_elim}
use mathlib.Core.Path.{◌≡◌, refl, sym, subst}
use native.Mathlib.Nat.{mul-pos}
use native.Mathlib.Omega.{arith}
use borrow.Author.Tests.{lt-ltb}
use lib.Dec.{T, ltb→lt}
use lib.Ieee.{Float, nan, inf, fin, binary64, up, down, size, lt, fits, of_bits, to_bits}
use lib.Ieee.Bits.{of_bits-to_bits}
use lib.Ieee.Exact.{HasValue}
use lib.Ieee.Fits.{up_pos}
use lib.Ieee.Positive.{positive}
use lib.Ieee.Scale.{finite}
use Rattle.laws.proofs.Cases.{lt-or-le, eq-or-ne}
use Rattle.root.specs.Root.{root}
use Rattle.root.specs.Inner.{leading, significand_root}
use Rattle.root.proofs.Scaling.{Normal, normal-of-small}
use Rattle.root.proofs.Patterns.{zero-point, infinity, infinite, normal-value, subnormal-value, normal-of-fields, root-of-normal, root_value}

-- x is n in units of the least number, and n the significand m by a power of two
pub record Normalised (x : Float) : Type 0 where
  pub n : ℕ
  pub m : ℕ
  pub p : ℕ
  pub normal : Normal n m p
  pub value : HasValue x false n (2 ^ 1074)

above_zero : (x : Float) → T (positive x) → lt zero-point x ≡ true
unfolding lt
above_zero nan h = absurd h
above_zero (inf s) h = absurd h
above_zero (fin true m e) h = absurd h
above_zero (fin false m e) h = lt-ltb (0 * down e) (m * up e * 1) (omega (arith, mul-pos (ltb→lt 0 m h) (up_pos e)))

not-zero : T (positive (of_bits binary64 0)) → ⊥
unfolding of_bits
not-zero h = h

normalised-pattern : (b : ℕ) → T (positive (of_bits binary64 b)) → Normalised (of_bits binary64 b)
normalised-pattern b h =
    ⊎_elim
    (λ (z : b ≡ 0). absurd (not-zero (subst (λ (k : ℕ). T (positive (of_bits binary64 k))) z h)))
    (λ (z : b ≡ 0 → ⊥).
    ⊎_elim
    (λ (l : b < leading).
    record { n = b; m = b * 2 ^ (53 - size b); p = size b - 1; normal = normal-of-small b (omega arith) l; value = subnormal-value b l })
    (λ (g : leading ≤ b).
    ⊎_elim
    (λ (l : b < infinity).
    let x = b / leading - 1 in
    let t = b % leading in
    let less : x < 2046 = omega arith in
    let small : t < leading = omega arith in
    let whole : suc x * leading + t ≡ b = omega arith in
    record {
      n = (leading + t) * 2 ^ x;
      m = leading + t;
      p = x + 52;
      normal = normal-of-fields x t less small;
      value = subst (λ (k : ℕ). HasValue (of_bits binary64 k) false ((leading + t) * 2 ^ x) (2 ^ 1074)) whole (normal-value x t less small);
    })
    (λ (l : infinity ≤ b). absurd (subst (λ (y : Float). T (positive y)) (infinite b l (above_zero (of_bits binary64 b) h)) h))
    (lt-or-le b infinity))
    (lt-or-le b leading))
    (eq-or-ne b 0)

pub normalised : (x : Float) → T (fits binary64 x) → T (positive x) → Normalised x
normalised x f h =
    let e = of_bits-to_bits binary64 x f in
    subst (λ (y : Float). Normalised y) e (normalised-pattern (to_bits binary64 x) (subst (λ (y : Float). T (positive y)) (sym e) h))

has-value-finite : (x : Float) (a c : ℕ) → HasValue x false a c → finite x ≡ true
has-value-finite nan a c v = absurd v
has-value-finite (inf s) a c v = absurd v
has-value-finite (fin s m e) a c v = refl

module _ (x : Float) (f : T (fits binary64 x)) (h : T (positive x)) where
  abbrev it : Normalised x
  it = normalised x f h

  pub root_is : root x ≡ significand_root it.m it.p
  root_is = root-of-normal x it.n it.m it.p it.normal it.value

  pub positive-root-finite : finite (root x) ≡ true
  positive-root-finite =
      subst (λ (y : Float). finite y ≡ true) (sym root_is)
      (has-value-finite (significand_root it.m it.p) _ _ (root_value it.m it.p it.normal.digits it.normal.deep))
