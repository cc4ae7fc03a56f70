use Rattle.laws.proofs.Loops.{again, done}
use mathlib.Core.Path.{refl}
use Rattle.solve.specs.Elimination.{system}
use Rattle.solve.specs.Solution.{unknown_step, unknowns_from}
use Rattle.solve.proofs.back_substitute.Goals as goal

pub loop-i-init : goal.loop-i-init
loop-i-init c = refl

pub loop-i-preserved : goal.loop-i-preserved
loop-i-preserved c = let e = c.args in
    again (unknown_step e.size (system e.a.now e.b.now)) c.loop-i-test.true c.unknown_step.ensures c.loop-i.invariant

pub returns : goal.returns
unfolding unknowns_from
returns c = let e = c.args in
    done (unknown_step e.size (system e.a.now e.b.now)) c.loop-i-test.false c.loop-i.invariant
