-- `solve::too_small`: the magnitude is that of the pivot.
-- Assumes nothing.
use Rattle.solve.proofs.too_small.Goals as goal

pub returns : goal.returns
returns c = rw (← c.magnitude.ensures)
