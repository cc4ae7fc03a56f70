use lib.ListN.{length}
use mathlib.Core.Path.{refl, ap, ◌∙◌}
use Rattle.laws.specs.Loops.{fold}
use Rattle.fit.specs.Sums.{no_sums}
use Rattle.fit.proofs.Sums.{sums-folded}
use Rattle.trim.specs.Inner.{sample_at, up_to, under}
use Rattle.trim.proofs.Indices.{index-again, index-done}
use Rattle.trim.proofs.Under.{under_step, under-fold, turn-taken, turn-passed}
use Rattle.held_trim.proofs.sums_under.Goals.{then-squares-i, else-squares-i}
use Rattle.held_trim.proofs.sums_under.Goals as goal

pub loop-i-init : goal.loop-i-init
loop-i-init g c = refl

pub loop-i-preserved : goal.loop-i-preserved
loop-i-preserved g c = let step = g.S.FitSums.stepped in
    let a = c.args in
    let l = c.loop-i in
    index-again (under_step step a.samples.now a.squares.now a.limit) c.loop-i-test.true
    (elim c.if-squares-i.branch [
      | then-squares-i w ↦ turn-taken step a.samples.now a.squares.now a.limit l.i l.t c.if-squares-i.t w.if-squares-i.true (w.t-is ∙ w.step-t.ensures)
      | else-squares-i w ↦ turn-passed step a.samples.now a.squares.now a.limit l.i l.t c.if-squares-i.t w.if-squares-i.false w.t-is
    ])
    l.invariant

pub returns : goal.returns
returns g c = let m = g.S.FitSums in
    let step = m.stepped in
    let a = c.args in
    let steps = under_step step a.samples.now a.squares.now a.limit in
    index-done steps c.loop-i-test.false c.loop-i.invariant
    ∙ ap (fold steps (up_to (length a.samples.now))) c.begin-t.ensures
    ∙ under-fold step a.samples.now a.squares.now a.limit (length a.samples.now) (m.totals no_sums)
    ∙ sums-folded m.totals m.stepped g.met.S.FitSums.moves (sample_at a.samples.now) (under a.squares.now a.limit (length a.samples.now))
