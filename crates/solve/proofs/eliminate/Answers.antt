use Rattle.laws.proofs.Loops.{done}
use mathlib.Core.Path.{refl}
use Rattle.std.proofs.lemmas.Result.{err_from_is_err_and}
use Rattle.solve.specs.Elimination.{system, column_step, eliminated}
use Rattle.solve.proofs.Rows.{column-next, column-last}
use Rattle.solve.proofs.eliminate.Goals as goal

pub loop-col-init : goal.loop-col-init
loop-col-init c = refl

pub returns-in_err-eliminate_column : goal.returns-in_err-eliminate_column
unfolding eliminated
returns-in_err-eliminate_column c = let l = c in
    let column = c.eliminate_column in
    let handed = err_from_is_err_and c.from_residual.result c.from_residual.ensures.1 in
    rw (handed.1)
    (column-last l.args.size l.loop-col.col (system l.loop-col.a l.loop-col.b) (system column.new.a column.new.b)
    c.loop-col-test.true column.ensures l.loop-col.invariant c.in_err-eliminate_column.was)

pub loop-col-preserved : goal.loop-col-preserved
loop-col-preserved c = let l = c in
    let column = c.eliminate_column in
    column-next l.args.size l.loop-col.col (system l.loop-col.a l.loop-col.b) (system column.new.a column.new.b)
    c.loop-col-test.true column.ensures l.loop-col.invariant c.in_ok-eliminate_column.was

pub returns : goal.returns
unfolding eliminated
returns c = done (column_step c.args.size) c.loop-col-test.false c.loop-col.invariant
