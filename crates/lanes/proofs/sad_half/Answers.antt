use Prim.Native.Nat.{◌+◌, ◌*◌}
use Rattle.lanes.specs.Inner.{lane_costs}
use Rattle.lanes.proofs.Lanes.{begins, goes_on, stops, ends, row_laid, row_small, low-if, room}
use Rattle.plane.proofs.Listing.{part_length}
use native.Mathlib.Omega.{arith}
use Rattle.lanes.proofs.sad_half.Goals as goal

pub loop-i-init : goal.loop-i-init
loop-i-init c = begins _ _ _ 8 8 524280

pub next_row-sums-requires : goal.next_row-sums-requires
next_row-sums-requires c = let p = c.requires in
    let a = c.args in
    let i = c.loop-i.i in
    let y = a.at.y in
    let x = a.at.x in record { lane_row = record { pels = part_length (i * 64) 64 a.spread.now (omega (arith, p.laned.pels, c.loop-i-test.true)); seen = part_length ((y + i) * 32 + x) 15 a.window.now (omega (arith, p.laned.seen, p.laned.rows, p.laned.columns, c.loop-i-test.true)) }; if_low = low-if p.if_low (i * 64) 64 (omega (arith, p.laned.pels, c.loop-i-test.true)); if_low_2 = low-if p.if_low_2 ((y + i) * 32 + x) 15 (omega (arith, p.laned.seen, p.laned.rows, p.laned.columns, c.loop-i-test.true)); room = room c.loop-i.invariant p.starts.each }

pub returns-then-going-eq0 : goal.returns-then-going-eq0
unfolding lane_costs
returns-then-going-eq0 c = let a = c.args in
    let i = c.loop-i.i in
    let g = c.next_row-sums.ensures in
    stops
    (goes_on c.loop-i.invariant c.loop-i-test.true (row_laid a.spread.now a.window.now a.at.y a.at.x i g) (row_small a.spread.now a.window.now a.at.y a.at.x i g)
    c.count_below-going.ensures.same c.count_below-going.ensures.small)
    (omega arith) c.if-going-eq0.true

pub loop-i-preserved : goal.loop-i-preserved
loop-i-preserved c = let a = c.args in
    let i = c.loop-i.i in
    let g = c.next_row-sums.ensures in
    goes_on c.loop-i.invariant c.loop-i-test.true (row_laid a.spread.now a.window.now a.at.y a.at.x i g) (row_small a.spread.now a.window.now a.at.y a.at.x i g)
    c.count_below-going.ensures.same c.count_below-going.ensures.small

pub returns : goal.returns
unfolding lane_costs
returns c = ends c.loop-i.invariant (omega arith)
