use Rattle.quantize.proofs.Leftover.{refit-sums, refit-of-none}
use Rattle.quantize.specs.Quantize.{refit_totals}
use Rattle.quantize.specs.Inner.{refit_step}
use Rattle.fit.specs.Sums.{reading}
use Rattle.sample.specs.Sample.{sample_of}
use Rattle.laws.proofs.Fold.{fold-again, fold_done}
use Rattle.laws.specs.Loops.{fold}
use mathlib.Core.Path.{refl, ◌∙◌, ap}
use Rattle.quantize.proofs.refit_sums.Goals as goal

pub loop-word-init : goal.loop-word-init
loop-word-init c = refl

pub sample_by-requires : goal.sample_by-requires
sample_by-requires c = c.centres-centres.ensures

pub loop-word-preserved : goal.loop-word-preserved
loop-word-preserved c = let l = c.before in
    let a = l.args in
    fold-again (reading (refit_step a.m) sample_of) a.words.now l.loop-word.word-index 0
    c.loop-word-test.true (c.refit_step-t.ensures ∙ ap (refit_step a.m l.loop-word.t) c.sample_by.ensures) l.loop-word.invariant

pub returns : goal.returns
unfolding refit_totals
returns c = let a = c.args in
    fold_done (reading (refit_step a.m) sample_of) a.words.now c.loop-word.word-index c.loop-word-test.false c.loop-word.invariant
    ∙ ap (fold (reading (refit_step a.m) sample_of) a.words.now) (c.begin-t.ensures ∙ refit-of-none a.m)
    ∙ refit-sums sample_of a.m a.words.now
