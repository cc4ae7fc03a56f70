use Rattle.laws.proofs.Loops.{again, done}
use mathlib.Core.Path.{refl}
use Rattle.solve.specs.Solution.{residue_step, residue_of}
use Rattle.solve.proofs.residue_of.Goals as goal

pub loop-k-init : goal.loop-k-init
loop-k-init c = refl

pub loop-k-preserved : goal.loop-k-preserved
loop-k-preserved c = let l = c in
    let e = l.args in
    again (residue_step e.a.now e.x.now e.row) c.loop-k-test.true refl l.loop-k.invariant

pub returns : goal.returns
unfolding residue_of
returns c = let e = c.args in
    done (residue_step e.a.now e.x.now e.row) c.loop-k-test.false c.loop-k.invariant
