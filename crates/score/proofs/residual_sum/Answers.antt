use Rattle.score.specs.Score.{score_step}
use Rattle.score.specs.Inner.{residual_sum}
use Rattle.fit.specs.Sums.{reading}
use Rattle.sample.specs.Sample.{sample_of}
use Rattle.laws.proofs.Fold.{fold-again, fold_done}
use mathlib.Core.Path.{refl, ◌∙◌, ap}
use Rattle.score.proofs.residual_sum.Goals as goal

pub loop-word-init : goal.loop-word-init
loop-word-init c = refl

pub sample_by-requires : goal.sample_by-requires
sample_by-requires c = c.centres-centres.ensures

pub loop-word-preserved : goal.loop-word-preserved
loop-word-preserved c = let l = c.before in
    let a = l.args in
    fold-again (reading (score_step a.m) sample_of) a.words.now l.loop-word.word-index 0
    c.loop-word-test.true (c.score_step-acc.ensures ∙ ap (score_step a.m l.loop-word.acc) c.sample_by.ensures) l.loop-word.invariant

pub returns : goal.returns
unfolding residual_sum
returns c = let a = c.args in
    fold_done (reading (score_step a.m) sample_of) a.words.now c.loop-word.word-index c.loop-word-test.false c.loop-word.invariant
