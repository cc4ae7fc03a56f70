-- `SlotGrid::distance`: the product is at most 2 ^ abs_bits steps.
-- Assumes nothing.
use Rattle.grid.proofs.Bounds.{distance-small}
use Rattle.grid.proofs.SlotGrid.distance.Goals as goal

pub returns-clause-small : goal.returns-clause-small
returns-clause-small c =
    rw (c.ordinal.ensures.is, c.step.ensures.is)
    (distance-small c.args.self.abs c.args.self.prec (record { fraction = c.args.self.fraction; reach = c.args.self.reach }) c.args.size)
