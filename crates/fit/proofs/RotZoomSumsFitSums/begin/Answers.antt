-- `fit::RotZoomSums::begin`: each sum of nothing.
-- Assumes nothing.
use mathlib.Core.Path.{refl}
use Rattle.fit.specs.Sums.{rot_zoom_totals}
use Rattle.fit.proofs.RotZoomSumsFitSums.begin.Goals as goal

pub returns : goal.returns
unfolding rot_zoom_totals
returns c = refl
