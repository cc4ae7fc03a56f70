-- `solve::unknown_step`: the row's residue divided by its diagonal entry.
-- Assumes nothing.
use Rattle.solve.proofs.unknown_step.Goals as goal

pub returns : goal.returns
returns c = rw (← c.residue_of.ensures)
