use Rattle.quantize.specs.Inner.{refitting_step}
use Rattle.laws.proofs.Fold.{fold-again, fold_done}
use mathlib.Core.Path.{refl}
use Rattle.quantize.proofs.refit_walk.Goals as goal

pub loop-s-init : goal.loop-s-init
loop-s-init c = refl

pub loop-s-preserved : goal.loop-s-preserved
loop-s-preserved c = let l = c.loop-s in
    fold-again refitting_step c.args.samples.now l.s-index _ c.loop-s-test.true c.refitting_step-t.ensures l.invariant

pub returns : goal.returns
returns c = fold_done refitting_step c.args.samples.now c.loop-s.s-index c.loop-s-test.false c.loop-s.invariant
