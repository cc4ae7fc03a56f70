-- `solve::eliminate_column`: the pivot found is the definition's, and its magnitude decides.
-- Assumes nothing.
use Rattle.solve.proofs.Rows.{column-refused, column-passed}
use Rattle.solve.specs.Elimination.{system}
use Rattle.solve.proofs.eliminate_column.Goals as goal

pub returns-then-too_small : goal.returns-then-too_small
returns-then-too_small c = let e = c.args in
    let pivot = c.pivot_of-pivot in
    column-refused e.size e.col pivot.result (system e.a.now e.b.now) pivot.ensures.0 c.too_small.ensures c.if-too_small.true

pub returns : goal.returns
returns c = let test = c in
    let e = test.args in
    let pivot = test.pivot_of-pivot in
    column-passed e.size e.col pivot.result (system e.a.now e.b.now) pivot.ensures.0 test.too_small.ensures test.if-too_small.false
    c.exchange.ensures c.reduce_below.ensures
