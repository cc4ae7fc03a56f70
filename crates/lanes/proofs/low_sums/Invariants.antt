-- `low_sums`: each turn stores the row of the next lane.
-- Assumes nothing.
use Rattle.lanes.specs.Inner.{lane_row}
use Rattle.cost.proofs.Bounded.{Filling}
use Rattle.lanes.proofs.low_sums.Given as goal

abbrev pub invariant-loop-k : goal.invariant-loop-k
invariant-loop-k l = Filling (lane_row l.row l.part) (lane_row l.row l.part) 65528 8 l.initial.sums l.sums l.k
