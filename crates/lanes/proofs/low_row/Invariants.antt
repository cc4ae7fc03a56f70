-- `low_row`: each turn stores the cost of the next lane with its row added.
-- Assumes nothing.
use Prim.Native.Nat.{◌+◌}
use lib.ListN.{get_or}
use Rattle.lanes.specs.Inner.{lane_row}
use Rattle.cost.proofs.Bounded.{Filling}
use Rattle.lanes.proofs.low_row.Given as goal

abbrev pub invariant-loop-k : goal.invariant-loop-k
invariant-loop-k l = Filling (lane_row l.row l.part) (λ j. get_or l.costs j 0 + lane_row l.row l.part j) 524280 8 l.initial.sums l.sums l.k
