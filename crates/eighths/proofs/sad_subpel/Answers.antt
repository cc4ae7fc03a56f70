use Prim.Native.Nat.{◌+◌, ◌*◌, ◌≤◌}
use mathlib.Core.Path.{◌∙◌}
use Rattle.cost.specs.Inner.{bilinear_window_costs, whole_in, fraction_of}
use Rattle.cost.proofs.Ended.{first, next, stops, all}
use Rattle.cost.proofs.Bounded.{part-at-most}
use Rattle.plane.proofs.Listing.{part_length}
use Rattle.blend.proofs.Blended.{bilinear-laid}
use native.Mathlib.Omega.{arith}
use Rattle.eighths.proofs.sad_subpel.Goals as goal

pub loop-i-init : goal.loop-i-init
loop-i-init c = first _ _ _ _ _

pub predicted_row-row-requires : goal.predicted_row-row-requires
predicted_row-row-requires c = let p = c.requires in
    let a = c.args in
    let i = c.loop-i.i in
    let b = (whole_in a.corner.y a.motion.y + i) * 24 + whole_in a.corner.x a.motion.x in
    let l : b + 41 ≤ 576 = omega (arith, p.y_reached.high, p.y_reached.low, p.x_reached.high, p.x_reached.low, c.loop-i-test.true) in record {
      byte_rows = record {
        high_pels = part_length b 41 a.highs.now (omega (arith, l, p.high_pels));
        low_pels = part_length b 41 a.lows.now (omega (arith, l, p.low_pels));
        high_bytes = part-at-most 255 a.highs.now b 41 (omega (arith, l, p.high_pels)) p.high_bytes;
        low_bytes = part-at-most 255 a.lows.now b 41 (omega (arith, l, p.low_pels)) p.low_bytes;
      };
      fractions = record { fy_small = omega arith; fx_small = omega arith };
    }

pub row_of_16-cost-requires : goal.row_of_16-cost-requires
row_of_16-cost-requires c = part_length (c.loop-i.i * 16) 16 c.args.block.now (omega (arith, c.requires.pels, c.loop-i-test.true))

pub returns-then-best-cost : goal.returns-then-best-cost
unfolding bilinear_window_costs
returns-then-best-cost c = let a = c.args in
    let p = c.requires in
    stops c.loop-i.invariant c.loop-i-test.true
    (c.row_of_16-cost.ensures.same
    ∙ bilinear-laid a.block.now a.highs.now a.lows.now (whole_in a.corner.y a.motion.y) (whole_in a.corner.x a.motion.x) (fraction_of a.motion.y) (fraction_of a.motion.x) c.loop-i.i
    p.high_pels (omega (arith, p.y_reached.high, p.y_reached.low)) (omega (arith, p.x_reached.high, p.x_reached.low)) c.loop-i-test.true c.predicted_row-row.ensures)
    c.row_of_16-cost.ensures.small c.if-best-cost.true (omega arith)

pub loop-i-preserved : goal.loop-i-preserved
loop-i-preserved c = let a = c.args in
    let p = c.requires in
    next c.loop-i.invariant c.loop-i-test.true
    (c.row_of_16-cost.ensures.same
    ∙ bilinear-laid a.block.now a.highs.now a.lows.now (whole_in a.corner.y a.motion.y) (whole_in a.corner.x a.motion.x) (fraction_of a.motion.y) (fraction_of a.motion.x) c.loop-i.i
    p.high_pels (omega (arith, p.y_reached.high, p.y_reached.low)) (omega (arith, p.x_reached.high, p.x_reached.low)) c.loop-i-test.true c.predicted_row-row.ensures)
    c.row_of_16-cost.ensures.small c.if-best-cost.false

pub returns : goal.returns
unfolding bilinear_window_costs
returns c = all c.loop-i.invariant (omega arith) (omega arith)
