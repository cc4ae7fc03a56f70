use Rattle.laws.proofs.Loops.{again, done}
use mathlib.Core.Path.{refl}
use Rattle.solve.specs.Elimination.{factor_of, reduce_at, reduced_row}
use Rattle.solve.proofs.reduce_row.Goals as goal

pub loop-k-init : goal.loop-k-init
loop-k-init c = refl

pub loop-k-preserved : goal.loop-k-preserved
loop-k-preserved c = let l = c in
    let e = l.args in
    again (reduce_at e.col e.row (factor_of e.col e.row e.a.now)) c.loop-k-test.true refl l.loop-k.invariant

pub returns : goal.returns
unfolding reduced_row
returns c = let e = c.args in record { value = refl; a_after = done (reduce_at e.col e.row (factor_of e.col e.row e.a.now)) c.loop-k-test.false c.loop-k.invariant }
