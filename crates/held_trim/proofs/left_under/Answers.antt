use lib.ListN.{length}
use mathlib.Core.Path.{refl, ◌∙◌}
use Rattle.quantize.specs.Inner.{refit_step}
use Rattle.trim.proofs.Indices.{index-again, index-done}
use Rattle.trim.proofs.Under.{under_step, under-fold, turn-taken, turn-passed}
use Rattle.held_trim.proofs.left_under.Goals.{then-squares-i, else-squares-i}
use Rattle.held_trim.proofs.left_under.Goals as goal

pub loop-i-init : goal.loop-i-init
loop-i-init c = refl

pub loop-i-preserved : goal.loop-i-preserved
loop-i-preserved c = let a = c.args in
    let l = c.loop-i in
    index-again (under_step (refit_step a.m) a.samples.now a.squares.now a.limit) c.loop-i-test.true
    (elim c.if-squares-i.branch [
      | then-squares-i w ↦ turn-taken (refit_step a.m) a.samples.now a.squares.now a.limit l.i l.t c.if-squares-i.t w.if-squares-i.true (w.t-is ∙ w.refit_step-t.ensures)
      | else-squares-i w ↦ turn-passed (refit_step a.m) a.samples.now a.squares.now a.limit l.i l.t c.if-squares-i.t w.if-squares-i.false w.t-is
    ])
    l.invariant

pub returns : goal.returns
returns c = let a = c.args in
    index-done (under_step (refit_step a.m) a.samples.now a.squares.now a.limit) c.loop-i-test.false c.loop-i.invariant
    ∙ under-fold (refit_step a.m) a.samples.now a.squares.now a.limit (length a.samples.now) a.begun
