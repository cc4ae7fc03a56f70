use Rattle.fit.proofs.Sums.{sums-folded}
use Rattle.fit.specs.Sums.{itself, reading}
use Rattle.laws.proofs.Fold.{fold-again, fold_done}
use Rattle.laws.specs.Loops.{fold}
use mathlib.Core.Path.{◌∙◌, ap}
use Rattle.fit.proofs.sums_over.Goals as goal

pub loop-s-init : goal.loop-s-init
loop-s-init g c = ap (fold (reading g.S.FitSums.stepped itself) c.args.samples.now) c.begin-t.ensures

pub loop-s-preserved : goal.loop-s-preserved
loop-s-preserved g c = let m = g.S.FitSums in
    let l = c.loop-s in
    fold-again (reading m.stepped itself) c.args.samples.now l.s-index _ c.loop-s-test.true (c.step-t.ensures) l.invariant

pub returns : goal.returns
returns g c = let m = g.S.FitSums in
    let l = c.loop-s in
    fold_done (reading m.stepped itself) c.args.samples.now l.s-index c.loop-s-test.false l.invariant
    ∙ sums-folded m.totals m.stepped g.met.S.FitSums.moves itself c.args.samples.now
