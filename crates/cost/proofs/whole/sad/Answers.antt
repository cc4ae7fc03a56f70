use native.Mathlib.Omega.{arith}
use Prim.Native.Nat.{◌+◌}
use Rattle.plane.proofs.Clamped.{row-end}
use Rattle.cost.proofs.Ended.{first}
use Rattle.cost.proofs.Laid.{row_next, row-stops, rows_all}
use Rattle.cost.proofs.whole.sad.Goals as goal

pub loop-i-init : goal.loop-i-init
loop-i-init g c = record { rows = first _ _ _ _ _ }

pub slice_bounds-row_difference-end-in-loop-i : goal.slice_bounds-row_difference-end-in-loop-i
slice_bounds-row_difference-end-in-loop-i g c = let at = c.args.at in
    omega (arith, c.requires.framed.seen, row-end g.row.SIDE g.row.SIDE (at.y + c.loop-i.i) at.x g.row.N (omega arith) c.requires.framed.columns)

pub returns-then-best-cost : goal.returns-then-best-cost
returns-then-best-cost g c = row-stops c.loop-i.invariant (omega arith) c.row_difference-cost.ensures c.if-best-cost.true (omega arith)

pub loop-i-preserved : goal.loop-i-preserved
loop-i-preserved g c = row_next c.loop-i.invariant (omega arith) c.row_difference-cost.ensures c.if-best-cost.false

pub returns : goal.returns
returns g c = rows_all c.loop-i.invariant (omega arith) (omega arith)
