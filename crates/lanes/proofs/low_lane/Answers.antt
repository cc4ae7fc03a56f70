use Prim.Native.Nat.{◌+◌, ◌*◌}
use Rattle.cost.proofs.Sum.{none, more, all}
use Rattle.lanes.specs.Inner.{lane_row}
use native.Mathlib.Omega.{arith}
use Rattle.lanes.proofs.low_lane.Goals as goal

pub loop-j-init : goal.loop-j-init
loop-j-init c = none _ _ _

pub loop-j-preserved : goal.loop-j-preserved
loop-j-preserved c = let p = c.requires in
    let k = c.args.k in
    let j = c.loop-j.j in
    let t = c.loop-j-test.true in
    more c.loop-j.invariant (omega arith) c.abs_diff-cost.ensures
    (omega (arith, p.at_most.each (8 * j + k) (omega (arith, p.lane_row.pels, p.k_bound, t)), p.at_most_2.each (j + k) (omega (arith, p.lane_row.seen, p.k_bound, t))))

pub returns : goal.returns
unfolding lane_row
returns c = all _ c.loop-j.invariant (omega arith) (omega arith)
