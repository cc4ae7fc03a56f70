use borrow.Author.Rules.{rules}
use mathlib.Core.Path.{sym, ap, ◌∙◌}
use Rattle.laws.specs.Loops.{fold}
use Rattle.fit.specs.Sums.{itself}
use Rattle.fit.proofs.Sums.{sums-folded}
use Rattle.named_samples.specs.Named.{named_samples}
use Rattle.named_samples.proofs.Named.{fold-named, step-taken, step-passed, steps-done}
use Rattle.named_samples.proofs.sums_named.Goals.{then-names, else-names}
use Rattle.named_samples.proofs.sums_named.Goals as goal

pub loop-i-init : goal.loop-i-init
loop-i-init g c = let step = g.S.FitSums.stepped in
    fold-named c.args.set c.args.samples.now c.args.classes.now step c.begin-t.result

pub loop-i-preserved : goal.loop-i-preserved
loop-i-preserved g c = let step = g.S.FitSums.stepped in
    let a = c.args in
    let l = c.loop-i in
    elim c.if-names.branch [
      | then-names w ↦ step-taken a.set a.samples.now a.classes.now step l.i (search rules) (search rules) (sym c.names.ensures ∙ w.if-names.true) (w.t-is ∙ w.step-t.ensures ∙ ap (step l.t) w.lent_sample.ensures) l.invariant
      | else-names w ↦ step-passed a.set a.samples.now a.classes.now step l.i (search rules) (search rules) (sym c.names.ensures ∙ w.if-names.false) w.t-is l.invariant
    ]

pub returns : goal.returns
returns g c = let m = g.S.FitSums in
    let step = m.stepped in
    let a = c.args in
    steps-done a.set a.samples.now a.classes.now step c.loop-i.i c.loop-i-test.false c.loop-i.invariant
    ∙ ap (fold step (named_samples a.set a.samples.now a.classes.now)) c.begin-t.ensures
    ∙ sums-folded m.totals m.stepped g.met.S.FitSums.moves itself (named_samples a.set a.samples.now a.classes.now)
