use Rattle.laws.proofs.Loops.{again, done}
use mathlib.Core.Path.{refl}
use lib.Ieee.{nan}
use Rattle.solve.specs.Elimination.{exchange_at, exchanged_rows}
use Rattle.solve.proofs.exchange_rows.Goals as goal

pub loop-k-init : goal.loop-k-init
loop-k-init c = refl

pub loop-k-preserved : goal.loop-k-preserved
loop-k-preserved c = let e = c.args in
    again (exchange_at e.first e.second) c.loop-k-test.true (c.swap.ensures.by_index.3 nan) c.loop-k.invariant

pub returns : goal.returns
unfolding exchanged_rows
returns c = let e = c.args in
    done (exchange_at e.first e.second) c.loop-k-test.false c.loop-k.invariant
