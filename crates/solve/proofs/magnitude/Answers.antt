-- `solve::magnitude`: the library's magnitude is the definition's, test by test.
-- Assumes nothing.
use Prim.Native.Nat.{◌*◌}
use mathlib.Core.Bool.{Bool, true, false, true≢false}
use mathlib.Core.Path.{◌≡◌, refl, sym, ap, ◌∙◌}
use native.Mathlib.Omega.{arith}
use borrow.Author.Tests.{ltb-true, ltb-false, eq-eqb}
use lib.Dec.{T, eqb, eqb→eq}
use lib.IntN.{pos}
use lib.Ieee.{Float, nan, inf, fin, binary64, lt, eq, neg, fits, up, down, of_bits}
use lib.Ieee.Fits.{and_l}
use lib.Ieee.Back.{whole_unique}
use Rattle.std.specs.Float.{float_with_sign, float_zero}
use Rattle.std.proofs.lemmas.Float.{T_from_true}
use Rattle.laws.specs.Binary64.{nought}
use Rattle.solve.specs.Elimination.{abs_of}
use Rattle.solve.proofs.magnitude.Goals as goal

below : (x : Float) → lt x float_zero ≡ true → float_with_sign false x ≡ neg x
unfolding lt neg float_with_sign
below nan h = refl
below (inf true) h = refl
below (inf false) h = absurd (true≢false (sym h))
below (fin true m d) h = refl
below (fin false m d) h = absurd (omega (arith, ltb-true _ _ h))

at-zero : (x : Float) → T (fits binary64 x) → eq x float_zero ≡ true → float_with_sign false x ≡ float_zero
unfolding eq float_with_sign fits
at-zero nan p h = absurd (true≢false (sym h))
at-zero (inf s) p h = absurd (true≢false (sym h))
at-zero (fin s m d) p h =
    let z : m * up d * 1 ≡ 0 * 1 * down d = eqb→eq _ _ (and_l (eqb (m * up d * 1) (0 * 1 * down d)) _ (T_from_true _ h)) in
    sym (ap (float_with_sign false) (whole_unique binary64 (fin s 0 (pos 0)) (fin s m d) s 0 tt p (refl, refl) (refl, omega arith)))

above : (x : Float) → lt x float_zero ≡ false → eq x float_zero ≡ false → float_with_sign false x ≡ x
unfolding lt eq float_with_sign
above nan h k = refl
above (inf true) h k = absurd (true≢false h)
above (inf false) h k = refl
above (fin true m d) h k =
    let z : m * up d * 1 ≡ 0 = omega (arith, ltb-false _ _ h) in
    absurd (true≢false (rw (eq-eqb (m * up d * 1) (0 * 1 * down d) (omega arith), eq-eqb (m * up d * 1) 0 z) at k))
above (fin false m d) h k = refl

nought-is : nought ≡ float_zero
unfolding of_bits
nought-is = refl

by-tests : (x : Float) (small zero : Bool) → lt x nought ≡ small → eq x nought ≡ zero → T (fits binary64 x) → float_with_sign false x ≡ abs_of x
unfolding abs_of
by-tests x true zero h e p = below x (sym (ap (lt x) nought-is) ∙ h) ∙ rw h
by-tests x false true h e p = at-zero x p (sym (ap (eq x) nought-is) ∙ e) ∙ sym nought-is ∙ rw (h, e)
by-tests x false false h e p = above x (sym (ap (lt x) nought-is) ∙ h) (sym (ap (eq x) nought-is) ∙ e) ∙ rw (h, e)

pub returns : goal.returns
returns c = c.abs.ensures.value ∙ by-tests c.args.x _ _ refl refl (T_from_true _ c.well_formed.0.1)
