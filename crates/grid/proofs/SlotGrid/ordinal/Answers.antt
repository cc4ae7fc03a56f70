-- `SlotGrid::ordinal`: the powers are those of the definition, and the test takes the lesser.
-- Assumes nothing.
use Rattle.std.proofs.Common.{rules}
use Rattle.grid.specs.Grid.{nearest_ordinal}
use Rattle.grid.proofs.SlotGrid.ordinal.Goals as goal

pub returns-clause-is : goal.returns-clause-is
unfolding nearest_ordinal
returns-clause-is c = rw (← c.step-step.ensures.is, ← c.limit.ensures.is) (search rules)
