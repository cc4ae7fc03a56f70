-- The fits of no samples: a translation is not-a-number twice, and the other two are refused at their first pivot, a zero.
-- Assumes nothing.
use mathlib.Core.List.{[]}
use mathlib.Core.Path.{◌≡◌, refl}
use lib.Ieee.{nan, of_bits, of_int, div, lt, eq, neg}
use Rattle.laws.specs.Loops.{run}
use Rattle.solve.specs.Elimination.{abs_of, column, eliminated}
use Rattle.fit.specs.declared.Fitted.TheVariants.{Refused, Translation}
use Rattle.fit.specs.Sums.{translation_totals, rot_zoom_totals, affine_totals}
use Rattle.fit.specs.Fitted.{translation_fit, translation_from, rot_zoom_fit, rot_zoom_from, affine_fit, affine_from}

pub translation-of-none : translation_fit [] ≡ Translation nan nan
unfolding translation_from translation_totals of_bits of_int div
translation-of-none = refl

pub rotzoom-of-none : rot_zoom_fit [] ≡ Refused 6
unfolding rot_zoom_from rot_zoom_totals eliminated column abs_of run of_bits of_int lt eq neg
rotzoom-of-none = refl

pub affine-of-none : affine_fit [] ≡ Refused 6
unfolding affine_from affine_totals eliminated column abs_of run of_bits of_int lt eq neg
affine-of-none = refl
