use Prim.Native.Nat.{ℕ, ◌+◌}
use mathlib.Core.Path.{refl, ap}
use lib.ListN.{get_or}
use Rattle.cost.proofs.Bounded.{fill_none, fill_more, fill-all, fill-small}
use Rattle.lanes.proofs.Lanes.{lane-read}
use native.Mathlib.Omega.{arith}
use Rattle.lanes.proofs.low_row.Goals as goal

pub low_sums-lanes-requires : goal.low_sums-lanes-requires
low_sums-lanes-requires c = record { lane_row = c.requires.lane_row; at_most = c.requires.at_most; at_most_2 = c.requires.at_most_2 }

pub loop-k-init : goal.loop-k-init
loop-k-init c = fill_none _ _ _ _ _ refl

pub overflow_cast-sums : goal.overflow_cast-sums
overflow_cast-sums c = omega (arith, lane-read c.low_sums-lanes.ensures c.loop-k.k c.loop-k-test.true, c.low_sums-lanes.ensures.small c.loop-k.k c.loop-k-test.true)

pub overflow_add-sums : goal.overflow_add-sums
overflow_add-sums c = omega (arith, c.requires.room.each c.loop-k.k c.loop-k-test.true, lane-read c.low_sums-lanes.ensures c.loop-k.k c.loop-k-test.true, c.low_sums-lanes.ensures.small c.loop-k.k c.loop-k-test.true)

pub loop-k-preserved : goal.loop-k-preserved
loop-k-preserved c = let k = c.loop-k.k in
    let l = c.loop-k-test.true in
    fill_more c.loop-k.invariant l (ap (λ (a : ℕ). get_or c.args.costs k 0 + a) (lane-read c.low_sums-lanes.ensures k l)) (omega (arith, c.low_sums-lanes.ensures.small k l))

pub returns : goal.returns
returns c = record { same = fill-all c.loop-k.invariant (omega arith); small = fill-small c.loop-k.invariant (omega arith) }
