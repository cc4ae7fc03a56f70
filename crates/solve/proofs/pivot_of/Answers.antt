use Rattle.laws.proofs.Loops.{again, done}
use mathlib.Core.Path.{refl}
use Rattle.solve.specs.Elimination.{pivot_step}
use borrow.Author.Rules.{rules}
use Rattle.solve.proofs.pivot_of.Goals as goal

pub loop-row-init : goal.loop-row-init
loop-row-init c = (refl, search rules)

pub loop-row-preserved : goal.loop-row-preserved
loop-row-preserved c = let e = c.args in
    (again (pivot_step e.a.now e.col) c.loop-row-test.true c.pivot_step-pivot.ensures.0 c.loop-row.invariant.0, c.pivot_step-pivot.ensures.1)

pub returns : goal.returns
returns c = let e = c.args in
    (done (pivot_step e.a.now e.col) c.loop-row-test.false c.loop-row.invariant.0, c.loop-row.invariant.1)
