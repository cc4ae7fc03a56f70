use Rattle.solve.proofs.Rows.{row-reduced}
use Rattle.laws.proofs.Loops.{again, done}
use mathlib.Core.Path.{refl}
use Rattle.solve.specs.Elimination.{reduce_row, reduced}
use Rattle.solve.proofs.reduce_below.Goals as goal

pub loop-row-init : goal.loop-row-init
loop-row-init c = refl

pub loop-row-preserved : goal.loop-row-preserved
loop-row-preserved c = let l = c in
    let e = l.args in
    let row = c.reduce_row-factor.ensures in
    let step = row-reduced e.size e.col l.loop-row.row l.loop-row.a l.loop-row.b row.value row.a_after refl in
    again (reduce_row e.size e.col) c.loop-row-test.true step l.loop-row.invariant

pub returns : goal.returns
unfolding reduced
returns c = let e = c.args in
    done (reduce_row e.size e.col) c.loop-row-test.false c.loop-row.invariant
