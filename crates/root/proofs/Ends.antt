-- What is its own root: a zero, a not-a-number, infinity; and what has none: a number below zero.
-- Assumes nothing.
use Prim.Native.Nat.{ℕ, zero, suc, ◌+◌, ◌*◌, ◌≤◌, ◌<◌}
use mathlib.Core.Bool.{true, false, not}
use mathlib.Core.Logic.{⊎_elim}
use mathlib.Core.Path.{◌≡◌, refl, sym, ap, ◌∙◌, subst}
use native.Mathlib.Nat.{mul-pos, zero-lt-suc}
use native.Mathlib.Omega.{arith}
use borrow.Author.Tests.{ltb-true, ltb-false}
use lib.Dec.{T}
use lib.IntN.{ℤ}
use lib.Ieee.{Float, nan, inf, fin, binary64, up, down, lt, fits, is_nan, of_bits, to_bits}
use lib.Ieee.Bits.{of_bits-to_bits}
use lib.Ieee.Fits.{up_pos}
use Rattle.laws.proofs.Cases.{eq-or-ne}
use Rattle.root.specs.Root.{root}
use Rattle.root.proofs.Patterns.{zero-point, infinity, infinite}

some : (m : ℕ) (e : ℤ) → 0 < suc m * up e
some m e = mul-pos (zero-lt-suc m) (up_pos e)

pub below-has-none : (x : Float) → lt x zero-point ≡ true → root x ≡ nan
unfolding lt root
below-has-none nan p = refl
below-has-none (inf true) p = refl
below-has-none (inf false) p = absurd (subst T (sym p) tt)
below-has-none (fin true zero e) p = absurd (omega (arith, ltb-true 0 (0 * up e * 1 + 0 * down e) p))
below-has-none (fin true (suc m) e) p = refl
below-has-none (fin false m e) p = absurd (omega (arith, ltb-true (m * up e * 1) (0 * down e) p))

pub neither-is-its-own : (x : Float) → lt zero-point x ≡ false → lt x zero-point ≡ false → root x ≡ x
unfolding lt root
neither-is-its-own nan p q = refl
neither-is-its-own (inf true) p q = absurd (subst T q tt)
neither-is-its-own (inf false) p q = absurd (subst T p tt)
neither-is-its-own (fin s zero e) p q = refl
neither-is-its-own (fin false (suc m) e) p q = absurd (omega (arith, some m e, ltb-false (0 * down e) (suc m * up e * 1) p))
neither-is-its-own (fin true (suc m) e) p q = absurd (omega (arith, some m e, ltb-false 0 (suc m * up e * 1 + 0 * down e) q))

-- what passes a test is no not-a-number

pub less-is-no-nan : (x y : Float) → lt x y ≡ true → T (not (is_nan x))
unfolding lt is_nan
less-is-no-nan nan y p = absurd (subst T (sym p) tt)
less-is-no-nan (inf s) y p = tt
less-is-no-nan (fin s m e) y p = tt

pub above-is-no-nan : (x : Float) → lt zero-point x ≡ true → T (not (is_nan x))
unfolding lt is_nan
above-is-no-nan nan p = absurd (subst T (sym p) tt)
above-is-no-nan (inf s) p = tt
above-is-no-nan (fin s m e) p = tt

-- ---- a number above 0 by its pattern

module _ (x : Float) (f : T (fits binary64 x)) (h : lt zero-point x ≡ true) where
  pub above-has-pattern : 0 < to_bits binary64 x
  unfolding of_bits lt
  above-has-pattern =
      ⊎_elim
      (λ (e : to_bits binary64 x ≡ 0).
      absurd (subst T (subst (λ (y : Float). true ≡ lt zero-point y) (sym (of_bits-to_bits binary64 x f) ∙ ap (of_bits binary64) e) (sym h)) tt))
      (λ (n : to_bits binary64 x ≡ 0 → ⊥). let p : 0 < to_bits binary64 x = omega arith in p)
      (eq-or-ne (to_bits binary64 x) 0)

  pub infinite-is-its-own : infinity ≤ to_bits binary64 x → root x ≡ x
  unfolding root
  infinite-is-its-own l =
      let e = of_bits-to_bits binary64 x f in
      let is : x ≡ inf false = sym e ∙ infinite (to_bits binary64 x) l (subst (λ (y : Float). lt zero-point y ≡ true) (sym e) h) in
      subst (λ (y : Float). root y ≡ y) (sym is) refl
