-- `SlotGrid::reach`: no grid reaches farther than 2 ^ 22.
-- Assumes nothing.
use Rattle.grid.proofs.Bounds.{reach-small}
use Rattle.grid.proofs.SlotGrid.reach.Goals as goal

pub returns-clause-small : goal.returns-clause-small
returns-clause-small c =
    rw (c.limit.ensures.is, c.step.ensures.is)
    (reach-small c.args.self.abs c.args.self.prec (record { fraction = c.args.self.fraction; reach = c.args.self.reach }))
