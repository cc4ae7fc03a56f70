-- `score::score_step`: the residual is added.
-- Assumes nothing.
use Rattle.score.proofs.score_step.Goals as goal

pub returns : goal.returns
returns c = rw (← c.residual.ensures)
