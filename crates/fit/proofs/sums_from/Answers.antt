use Rattle.fit.proofs.Sums.{sums-folded}
use Rattle.fit.specs.Sums.{reading}
use Rattle.sample.specs.Sample.{sample_of}
use Rattle.laws.proofs.Fold.{fold-again, fold_done}
use Rattle.laws.specs.Loops.{fold}
use mathlib.Core.Path.{◌∙◌, ap}
use Rattle.fit.proofs.sums_from.Goals as goal

pub loop-word-init : goal.loop-word-init
loop-word-init g c = ap (fold (reading g.S.FitSums.stepped sample_of) c.args.words.now) c.begin-t.ensures

pub sample_from-requires : goal.sample_from-requires
sample_from-requires g c = record { tabled = c.centres-centres.ensures; tabled_2 = c.requires }

pub loop-word-preserved : goal.loop-word-preserved
loop-word-preserved g c = let m = g.S.FitSums in
    let l = c.loop-word in
    fold-again (reading m.stepped sample_of) c.args.words.now l.word-index 0 c.loop-word-test.true (c.step-t.ensures ∙ ap (m.stepped l.t) c.sample_from.ensures) l.invariant

pub returns : goal.returns
returns g c = let m = g.S.FitSums in
    let l = c.loop-word in
    fold_done (reading m.stepped sample_of) c.args.words.now l.word-index c.loop-word-test.false l.invariant
    ∙ sums-folded m.totals m.stepped g.met.S.FitSums.moves sample_of c.args.words.now
