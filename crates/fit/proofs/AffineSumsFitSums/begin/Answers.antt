-- `fit::AffineSums::begin`: each sum of nothing.
-- Assumes nothing.
use mathlib.Core.Path.{refl}
use Rattle.fit.specs.Sums.{affine_totals}
use Rattle.fit.proofs.AffineSumsFitSums.begin.Goals as goal

pub returns : goal.returns
unfolding affine_totals
returns c = refl
