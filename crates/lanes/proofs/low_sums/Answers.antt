use mathlib.Core.Path.{refl}
use Rattle.cost.proofs.Bounded.{fill_none, fill_more, fill-all, fill-small}
use native.Mathlib.Omega.{arith}
use Rattle.lanes.proofs.low_sums.Goals as goal

pub loop-k-init : goal.loop-k-init
loop-k-init c = fill_none _ _ _ _ _ refl

pub low_lane-requires : goal.low_lane-requires
low_lane-requires c = record { lane_row = c.requires.lane_row; at_most = c.requires.at_most; at_most_2 = c.requires.at_most_2; k_bound = c.loop-k-test.true }

pub loop-k-preserved : goal.loop-k-preserved
loop-k-preserved c = fill_more c.loop-k.invariant c.loop-k-test.true c.low_lane.ensures.same (omega (arith, c.low_lane.ensures.same, c.low_lane.ensures.small))

pub returns : goal.returns
returns c = record { same = fill-all c.loop-k.invariant (omega arith); small = fill-small c.loop-k.invariant (omega arith) }
