use borrow.Author.Rules.{rules}
use mathlib.Core.Path.{sym, ap, ◌∙◌}
use Rattle.quantize.specs.Inner.{refitting_step}
use Rattle.named_samples.proofs.Named.{fold-named, step-taken, step-passed, steps-done}
use Rattle.named_samples.proofs.refit_named.Goals.{then-names, else-names}
use Rattle.named_samples.proofs.refit_named.Goals as goal

pub loop-i-init : goal.loop-i-init
loop-i-init c = fold-named c.args.set c.args.samples.now c.args.classes.now refitting_step c.args.begun

pub loop-i-preserved : goal.loop-i-preserved
loop-i-preserved c = let a = c.args in
    let l = c.loop-i in
    elim c.if-names.branch [
      | then-names w ↦ step-taken a.set a.samples.now a.classes.now refitting_step l.i (search rules) (search rules) (sym c.names.ensures ∙ w.if-names.true) (w.t-is ∙ w.refitting_step-t.ensures ∙ ap (refitting_step l.t) w.lent_sample.ensures) l.invariant
      | else-names w ↦ step-passed a.set a.samples.now a.classes.now refitting_step l.i (search rules) (search rules) (sym c.names.ensures ∙ w.if-names.false) w.t-is l.invariant
    ]

pub returns : goal.returns
returns c = let a = c.args in
    steps-done a.set a.samples.now a.classes.now refitting_step c.loop-i.i c.loop-i-test.false c.loop-i.invariant
