-- `lane`: each turn adds the difference of the next two pels of the lane.
-- Assumes nothing.
use Prim.Native.Nat.{◌+◌, ◌*◌}
use lib.ListN.{get_or}
use Rattle.plane.specs.Difference.{difference}
use Rattle.cost.proofs.Sum.{Adds}
use Rattle.lanes.proofs.lane.Given as goal

abbrev pub invariant-loop-j : goal.invariant-loop-j
invariant-loop-j l = Adds (λ i. difference (get_or l.row (8 * i + l.k) 0) (get_or l.part (i + l.k) 0)) 65535 8 l.j l.cost
