use Prim.Native.Nat.{ℕ, ◌+◌}
use mathlib.Core.Path.{refl, ap}
use lib.ListN.{get_or}
use Rattle.cost.proofs.Bounded.{fill_none, fill_more, fill-all, fill-small}
use native.Mathlib.Omega.{arith}
use Rattle.lanes.proofs.wide_row.Goals as goal

pub loop-k-init : goal.loop-k-init
loop-k-init c = fill_none _ _ _ _ _ refl

pub lane-requires : goal.lane-requires
lane-requires c = record { lane_row = c.requires.lane_row; k_bound = c.loop-k-test.true }

pub overflow_add-sums : goal.overflow_add-sums
overflow_add-sums c = omega (arith, c.requires.room.each c.loop-k.k c.loop-k-test.true, c.lane.ensures.small)

pub loop-k-preserved : goal.loop-k-preserved
loop-k-preserved c = fill_more c.loop-k.invariant c.loop-k-test.true (ap (λ (a : ℕ). get_or c.args.costs c.loop-k.k 0 + a) c.lane.ensures.same)
    (omega (arith, c.lane.ensures.same, c.lane.ensures.small))

pub returns : goal.returns
returns c = record { same = fill-all c.loop-k.invariant (omega arith); small = fill-small c.loop-k.invariant (omega arith) }
