-- The root rises, so nothing hangs on when roots are taken: the median of the roots is the root of the median, a root is
-- finite where its number is, and a root is at most a cutoff where its number is at most the greatest whose root is,
-- which bisecting the patterns finds.
-- Assumes nothing.
use Prim.Native.Nat.{ℕ, zero, suc, ◌+◌, ◌*◌, ◌-◌, ◌≤◌, ◌<◌}
use mathlib.Core.Bool.{Bool, true, false, not, cond, false≢true}
use mathlib.Core.List.{List, [], ◌∷◌, map}
use mathlib.Core.Logic.{⊎_elim}
use mathlib.Core.Path.{◌≡◌, refl, sym, ap, subst, ◌∙◌}
use native.Mathlib.Nat.{le_refl, zero-lt-suc}
use native.Mathlib.Omega.{arith}
use borrow.Author.Tests.{lt-ltb}
use lib.Dec.{T, ltb, eqb}
use lib.Ieee.{Float, nan, inf, fin, binary64, up, down, fits, lt, le, neg, mul, of_bits, to_bits, nan_bits}
use lib.Ieee.Bits.{of_bits-to_bits, of_bits-fits}
use lib.Ieee.Fits.{mul-fits}
use lib.Ieee.Scale.{finite}
use Rattle.laws.specs.Binary64.{◌⊗◌, nought, one}
use Rattle.laws.specs.Refusal.{choose, both}
use Rattle.laws.specs.Stands.{Each}
use Rattle.laws.proofs.Cases.{outcome, lt-or-le}
use Rattle.sample.specs.declared.MotionSample.{MotionSample}
use Rattle.root.specs.Root.{root}
use Rattle.root.proofs.Signs.{round-unsigned, root-fits, root-unsigned, root-finite}
use Rattle.root.proofs.Rising.{root-rises}
use Rattle.median.specs.Median.{median, all_finite}
use Rattle.median.specs.Inner.{unsigned, Plain}
use Rattle.median.proofs.Patterns.{infinite, le-of-bits, no_nan, bits_below, bits_back, plain-below}
use Rattle.median.proofs.Through.{le-from-bits, bits-from-le, median-plain, median-through}
use Rattle.fit.specs.declared.Fitted.{Fitted}
use Rattle.trim.specs.Trim.{residuals_from, three, cutoff}
use Rattle.trim.specs.Inner.{square, squares_from, Bare, Limits}
use Rattle.trim.proofs.NoSign.{held, under-infinity}

pub told : (b : Bool) → T b → b ≡ true
told true t = refl
told false t = absurd t

-- ---- the median of the roots

root-plain : (x : Float) → Plain x → Plain (root x)
root-plain x p =
    record { held = root-fits x p.held; bare = root-unsigned x p.bare; ends = root-finite x p.held p.bare p.ends }

root-goes-up : (x y : Float) → Plain x → Plain y → le x y ≡ true → le (root x) (root y) ≡ true
root-goes-up x y p q e = told (le (root x) (root y)) (root-rises x y p.held q.held p.bare q.bare (held (le x y) e))

root-nought : root nought ≡ nought
unfolding root of_bits
root-nought = refl

pub median-of-roots : (xs : List Float) → Each Plain xs → median (map root xs) ≡ root (median xs)
median-of-roots xs e = median-through root root-plain root-goes-up root-nought xs e

-- the cutoff has no sign

either-unsigned : (b : Bool) → unsigned (cond b nan (inf false)) ≡ true
either-unsigned true = refl
either-unsigned false = refl

product-unsigned : (x y : Float) → unsigned x ≡ true → unsigned y ≡ true → unsigned (x ⊗ y) ≡ true
unfolding mul
product-unsigned nan y u v = refl
product-unsigned (inf true) y u v = absurd (false≢true u)
product-unsigned (inf false) nan u v = refl
product-unsigned (inf false) (inf true) u v = absurd (false≢true v)
product-unsigned (inf false) (inf false) u v = refl
product-unsigned (inf false) (fin true n d) u v = absurd (false≢true v)
product-unsigned (inf false) (fin false n d) u v = either-unsigned (eqb n 0)
product-unsigned (fin true m e) y u v = absurd (false≢true u)
product-unsigned (fin false m e) nan u v = refl
product-unsigned (fin false m e) (inf true) u v = absurd (false≢true v)
product-unsigned (fin false m e) (inf false) u v = either-unsigned (eqb m 0)
product-unsigned (fin false m e) (fin true n d) u v = absurd (false≢true v)
product-unsigned (fin false m e) (fin false n d) u v = round-unsigned binary64 (m * up e * (n * up d)) (down e * down d)

three-unsigned : unsigned three ≡ true
unfolding of_bits
three-unsigned = refl

one-unsigned : unsigned one ≡ true
unfolding of_bits
one-unsigned = refl

greater-bare : (b : Bool) (x : Float) → unsigned x ≡ true → Bare (choose b one (three ⊗ x))
greater-bare true x u = record { held = of_bits-fits binary64 0x3ff0_0000_0000_0000; bare = one-unsigned }
greater-bare false x u = record { held = mul-fits binary64 three x; bare = product-unsigned three x three-unsigned u }

pub cutoff-bare : (xs : List Float) → Each Plain xs → Bare (cutoff (map root xs))
cutoff-bare xs e =
    let u : unsigned (median (map root xs)) ≡ true = ap (λ (x : Float). unsigned x) (median-of-roots xs e) ∙ root-unsigned (median xs) (median-plain xs e).bare in
    greater-bare (lt (three ⊗ median (map root xs)) one) (median (map root xs)) u

-- ---- finite

finite-root : (x : Float) → T (fits binary64 x) → unsigned x ≡ true → finite (root x) ≡ finite x
unfolding root
finite-root nan f u = refl
finite-root (inf true) f u = refl
finite-root (inf false) f u = refl
finite-root (fin s m e) f u = root-finite (fin s m e) f u refl

pub finite-roots : (xs : List Float) → Each (λ (x : Float). T (fits binary64 x) × (unsigned x ≡ true)) xs → all_finite (map root xs) ≡ all_finite xs
finite-roots [] e = refl
finite-roots (x ∷ xs) e =
    ap (λ (b : Bool). both b (all_finite (map root xs))) (finite-root x e.0.0 e.0.1) ∙ ap (both (finite x)) (finite-roots xs e.1)

pub roots-of-squares : {A : Type 0} (read : A → MotionSample) (f : Fitted) (xs : List A) → map root (squares_from read f xs) ≡ residuals_from read f xs
roots-of-squares read f [] = refl
roots-of-squares read f (x ∷ xs) = ap (λ (l : List Float). root (square f (read x)) ∷ l) (roots-of-squares read f xs)

-- ---- the greatest number whose root is at most a cutoff

none-under-nan : (x : Float) → le x nan ≡ false
unfolding le lt lib.Ieee.eq
none-under-nan nan = refl
none-under-nan (inf s) = refl
none-under-nan (fin s m e) = refl

none-under-all : (x : Float) → Plain x → le x (neg (of_bits binary64 infinite)) ≡ false
unfolding le lt lib.Ieee.eq neg of_bits
none-under-all nan p = refl
none-under-all (inf s) p = absurd (false≢true p.ends)
none-under-all (fin s m e) p = refl

-- at most a number that is at most the cutoff
under-too : (x y c : Float) → Plain x → Plain y → Bare c → le x y ≡ true → le y c ≡ true → le x c ≡ true
under-too x y nan p q b h k = absurd (false≢true (sym (none-under-nan y) ∙ k))
under-too x y (inf true) p q b h k = absurd (false≢true b.bare)
under-too x y (inf false) p q b h k = under-infinity x (held (finite x) p.ends)
under-too x y (fin true m e) p q b h k = absurd (false≢true b.bare)
under-too x y (fin false m e) p q b h k =
    let c : Plain (fin false m e) = record { held = b.held; bare = refl; ends = refl } in
    let first = bits-from-le x y p q h in
    let then = bits-from-le y (fin false m e) q c k in
    le-from-bits x (fin false m e) p c (omega (arith, first, then))

abbrev root_at : ℕ → Float
root_at b = root (of_bits binary64 b)

-- `from_bits` is defined
pub readable : (b : ℕ) → b < infinite → T (not (nan_bits binary64 b))
readable b h = subst (λ (t : Bool). T (not t)) (sym (no_nan b h)) tt

pub above-nought : (n : ℕ) → (n ≡ 0 → ⊥) → 0 < n
above-nought zero h = absurd (h refl)
above-nought (suc n) h = zero-lt-suc n

-- the roots of the patterns below lo are at most the cutoff, and those from hi on aren't
pub record Cutting (c : Float) (lo hi : ℕ) : Type 0 where
  pub rising : lo ≤ hi
  pub finite : hi ≤ infinite
  pub low : (b : ℕ) → b < lo → le (root_at b) c ≡ true
  pub high : (b : ℕ) → hi ≤ b → b < infinite → le (root_at b) c ≡ false

pub starts : (c : Float) → Cutting c 0 infinite
starts c =
    record { rising = omega arith; finite = le_refl infinite; low = λ b h. absurd (omega arith); high = λ b h k. absurd (omega arith) }

module _ (c : Float) (bare : Bare c) where
  at-most-too : (a b : ℕ) → a ≤ b → b < infinite → le (root_at b) c ≡ true → le (root_at a) c ≡ true
  at-most-too a b h l e =
      let k : a < infinite = omega arith in
      let p = plain-below a k in
      let q = plain-below b l in
      under-too (root_at a) (root_at b) c (root-plain (of_bits binary64 a) p) (root-plain (of_bits binary64 b) q) bare
      (root-goes-up (of_bits binary64 a) (of_bits binary64 b) p q (le-from-bits (of_bits binary64 a) (of_bits binary64 b) p q (rw (bits_back a k, bits_back b l) h))) e

  module _ {lo mid hi : ℕ} (s : Cutting c lo hi) where
    pub goes-up : mid < hi → le (root_at mid) c ≡ true → Cutting c (mid + 1) hi
    goes-up h e =
        let f = s.finite in
        record { rising = omega arith; finite = f; low = λ b l. at-most-too b mid (omega arith) (omega arith) e; high = s.high }

    pub goes_down : lo ≤ mid → mid < hi → le (root_at mid) c ≡ false → Cutting c lo mid
    goes_down l h e =
        let f = s.finite in
        record {
          rising = l;
          finite = omega arith;
          low = s.low;
          high = λ b k i.
              ⊎_elim
              (λ (t : le (root_at b) c ≡ true). absurd (false≢true (sym e ∙ at-most-too mid b k i t)))
              (λ (t : le (root_at b) c ≡ false). t)
              (outcome (le (root_at b) c));
        }

module _ (c : Float) {lo hi : ℕ} (s : Cutting c lo hi) (met : hi ≤ lo) where
  root-back : (x : Float) → Plain x → root x ≡ root_at (to_bits binary64 x)
  root-back x p = ap root (sym (of_bits-to_bits binary64 x p.held))

  above : (x : Float) → Plain x → lo ≤ to_bits binary64 x → le (root x) c ≡ false
  above x p h = ap (λ (r : Float). le r c) (root-back x p) ∙ s.high (to_bits binary64 x) (omega arith) (bits_below x p)

  pub none_passes : lo ≡ 0 → Limits c (neg (of_bits binary64 infinite))
  none_passes z = record { same = λ x p. none-under-all x p ∙ sym (above x p (omega arith)) }

  pub some-pass : 0 < lo → Limits c (of_bits binary64 (lo - 1))
  some-pass h =
      let f = s.finite in
      let r = s.rising in
      let k : lo - 1 < infinite = omega arith in
      let q = plain-below (lo - 1) k in
      record {
        same = λ x p.
            ⊎_elim
            (λ (l : to_bits binary64 x < lo).
            le-from-bits x (of_bits binary64 (lo - 1)) p q (rw (bits_back (lo - 1) k) (let z : to_bits binary64 x ≤ lo - 1 = omega arith in z))
            ∙ sym (ap (λ (y : Float). le y c) (root-back x p) ∙ s.low (to_bits binary64 x) l))
            (λ (l : lo ≤ to_bits binary64 x).
            le-of-bits x (of_bits binary64 (lo - 1)) p q
            ∙ ap not (ap (λ (b : ℕ). ltb b (to_bits binary64 x)) (bits_back (lo - 1) k) ∙ lt-ltb (lo - 1) (to_bits binary64 x) (omega arith))
            ∙ sym (above x p l))
            (lt-or-le (to_bits binary64 x) lo);
      }
