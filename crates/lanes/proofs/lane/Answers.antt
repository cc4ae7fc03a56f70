use Rattle.cost.proofs.Sum.{none, more, all}
use Rattle.lanes.specs.Inner.{lane_row}
use native.Mathlib.Omega.{arith}
use Rattle.lanes.proofs.lane.Goals as goal

pub loop-j-init : goal.loop-j-init
loop-j-init c = none _ _ _

pub loop-j-preserved : goal.loop-j-preserved
loop-j-preserved c = more c.loop-j.invariant (omega arith) c.absolute_difference-cost.ensures.same c.absolute_difference-cost.ensures.small

pub returns : goal.returns
unfolding lane_row
returns c = all _ c.loop-j.invariant (omega arith) (omega arith)
