-- `SlotGrid::limit`: no grid has more than 2 ^ 22 ordinals to a side.
-- Assumes nothing.
use Rattle.grid.proofs.Bounds.{middle-small}
use Rattle.grid.proofs.SlotGrid.limit.Goals as goal

pub returns-clause-small : goal.returns-clause-small
returns-clause-small c = rw c.wide_power.ensures (middle-small c.args.self.abs c.args.self.prec (record { fraction = c.args.self.fraction; reach = c.args.self.reach }))
