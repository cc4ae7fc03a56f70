-- The test of two signed numbers for equality, and the code's test of their bits.
-- Assumes nothing.
use Prim.Native.Nat.{ℕ}
use mathlib.Core.Bool.{true, false}
use mathlib.Core.Logic.{⊎_elim}
use mathlib.Core.Path.{◌≡◌, refl, sym, ap, ◌∙◌}
use native.Mathlib.Omega.{arith}
use borrow.Author.Tests.{eq-eqb, eqb-true}
use lib.Dec.{eqb}
use lib.IntN.{ℤ, pos, negsuc}
use mir.Syntax.{Width}
use mir.Val.{SFits, of_z, to_z}
use mir.Facts.{to_z-of_z}
use Rattle.laws.proofs.Cases.{outcome}
use Rattle.models.specs.Integers.{equal}

pub equal-same : (a b : ℤ) → a ≡ b → equal a b ≡ true
equal-same a b e = rw (sym e) (reflexive a)
  where
    reflexive : (z : ℤ) → equal z z ≡ true
    reflexive (pos n) = eq-eqb n n refl
    reflexive (negsuc n) = eq-eqb n n refl

pub same-equal : (a b : ℤ) → equal a b ≡ true → a ≡ b
same-equal (pos a) (pos b) e = ap pos (eqb-true a b e)
same-equal (pos a) (negsuc b) e = absurd (let z : ◌≡◌ {A = ℕ} 0 1 = cc in omega arith)
same-equal (negsuc a) (pos b) e = absurd (let z : ◌≡◌ {A = ℕ} 0 1 = cc in omega arith)
same-equal (negsuc a) (negsuc b) e = ap negsuc (eqb-true a b e)

pub equal-bits : (w : Width) {a b : ℤ} → SFits w a → SFits w b → eqb (of_z w a) (of_z w b) ≡ equal a b
equal-bits w {a} {b} f g =
    ⊎_elim
    (λ (t : equal a b ≡ true). eq-eqb (of_z w a) (of_z w b) (ap (of_z w) (same-equal a b t)) ∙ sym t)
    (λ (n : equal a b ≡ false).
    ⊎_elim
    (λ (t : eqb (of_z w a) (of_z w b) ≡ true).
    let e : a ≡ b = sym (to_z-of_z f) ∙ ap (to_z w) (eqb-true (of_z w a) (of_z w b) t) ∙ to_z-of_z g in
    t ∙ sym (equal-same a b e))
    (λ (t : eqb (of_z w a) (of_z w b) ≡ false). t ∙ sym n)
    (outcome (eqb (of_z w a) (of_z w b))))
    (outcome (equal a b))
