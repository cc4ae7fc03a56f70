-- What the functions below the public calls ask and answer; no public contract cites it.
-- Assumes nothing.
use Rattle.std.specs.Prelude.{◌≡◌, Result, Ok, Err, refl}
use Rattle.sample.specs.declared.MotionSample.{MotionSample}
use Rattle.fit.specs.declared.TranslationSums.{TranslationSums}
use Rattle.fit.specs.declared.RotZoomSums.{RotZoomSums}
use Rattle.fit.specs.declared.AffineSums.{AffineSums}
use Rattle.solve.specs.declared.Singular.{Singular}
use Rattle.solve.specs.Elimination.{singular}
use Rattle.solve.specs.Solution.{number_of}
use Rattle.fit.specs.declared.Fitted.{Fitted}
use Rattle.fit.specs.declared.Fitted.TheVariants.{Refused}
use Rattle.fit.specs.Sums.{Summing, translation_totals, rot_zoom_totals, affine_totals, plus, su, sv, sx, sy, sxx, sxy, syy, sxu, syu, sxv, syv, q, p1, p2}

-- a sample added to every sum of a fit
abbrev pub translation_step : TranslationSums → MotionSample → TranslationSums
translation_step t s = record { su = plus su t.su s; sv = plus sv t.sv s }

abbrev pub rot_zoom_step : RotZoomSums → MotionSample → RotZoomSums
rot_zoom_step t s =
    record {
      sx = plus sx t.sx s;
      sy = plus sy t.sy s;
      q = plus q t.q s;
      p1 = plus p1 t.p1 s;
      p2 = plus p2 t.p2 s;
      su = plus su t.su s;
      sv = plus sv t.sv s;
    }

abbrev pub affine_step : AffineSums → MotionSample → AffineSums
affine_step t s =
    record {
      sx = plus sx t.sx s;
      sy = plus sy t.sy s;
      sxx = plus sxx t.sxx s;
      sxy = plus sxy t.sxy s;
      syy = plus syy t.syy s;
      sxu = plus sxu t.sxu s;
      syu = plus syu t.syu s;
      su = plus su t.su s;
      sxv = plus sxv t.sxv s;
      syv = plus syv t.syv s;
      sv = plus sv t.sv s;
    }

-- each moves a sum by its own term alone
pub translation_moves : (sum : Summing) (s : MotionSample) → translation_step (translation_totals sum) s ≡ translation_totals (λ term. plus term (sum term) s)
unfolding translation_totals
translation_moves sum s = refl

pub rot_zoom_moves : (sum : Summing) (s : MotionSample) → rot_zoom_step (rot_zoom_totals sum) s ≡ rot_zoom_totals (λ term. plus term (sum term) s)
unfolding rot_zoom_totals
rot_zoom_moves sum s = refl

pub affine_moves : (sum : Summing) (s : MotionSample) → affine_step (affine_totals sum) s ≡ affine_totals (λ term. plus term (sum term) s)
unfolding affine_totals
affine_moves sum s = refl

-- a model that was solved for, or row 6
abbrev pub or_singular : Result Fitted Singular → Fitted
or_singular (Ok f) = f
or_singular (Err _) = Refused (number_of singular)
