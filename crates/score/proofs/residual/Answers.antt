-- `score::residual`: the same operations in the same order.
-- Assumes nothing.
use mathlib.Core.Path.{refl}
use Rattle.score.specs.Score.{residual_of}
use Rattle.score.proofs.residual.Goals as goal

pub returns : goal.returns
unfolding residual_of
returns c = refl
