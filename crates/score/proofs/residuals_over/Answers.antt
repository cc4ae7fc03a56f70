use Rattle.score.specs.Score.{score_step}
use Rattle.fit.specs.Sums.{itself, reading}
use Rattle.laws.proofs.Fold.{fold-again, fold_done}
use mathlib.Core.Path.{refl}
use Rattle.score.proofs.residuals_over.Goals as goal

pub loop-s-init : goal.loop-s-init
loop-s-init c = refl

pub loop-s-preserved : goal.loop-s-preserved
loop-s-preserved c = let l = c.loop-s in
    fold-again (reading (score_step c.args.m) itself) c.args.samples.now l.s-index _ c.loop-s-test.true c.score_step-acc.ensures l.invariant

pub returns : goal.returns
returns c = fold_done (reading (score_step c.args.m) itself) c.args.samples.now c.loop-s.s-index c.loop-s-test.false c.loop-s.invariant
