-- `quantize::quantize_samples`: the walk ends with the refit on the grid, or with a refusal that has no part in it.
-- Assumes nothing.
use mathlib.Core.Path.{ap, ◌∙◌}
use native.Mathlib.Omega.{arith}
use lib.ListN.{length}
use Rattle.laws.specs.Loops.{fold}
use Rattle.refusal.proofs.Rows.{above-zero}
use Rattle.fit.specs.Sums.{itself}
use Rattle.quantize.specs.declared.Refitting.{Refitting}
use Rattle.quantize.specs.Inner.{refitting_step, refitting_ends}
use Rattle.quantize.proofs.Walked.{unwalked_ends, walk_ends}
use Rattle.quantize.proofs.quantize_samples.Goals as goal

pub returns-in-Err : goal.returns-in-Err
returns-in-Err c = let a = c.args in
    let n = length a.samples.now in
    c.refit_ends.ensures ∙ ap (λ (t : Refitting). refitting_ends t n) c.refit_begin-begun.ensures
    ∙ unwalked_ends itself a.fitted a.flag a.samples.now (λ e. omega (arith, c.in-Err.ensures, e, above-zero c.in-Err.field-0))

pub returns-in-Ok : goal.returns-in-Ok
returns-in-Ok c = let a = c.args in
    let n = length a.samples.now in
    c.refit_ends-in-Ok.ensures
    ∙ ap (λ (t : Refitting). refitting_ends t n) (c.refit_walk.ensures ∙ ap (fold refitting_step a.samples.now) c.refit_begin-begun.ensures)
    ∙ walk_ends itself a.fitted a.flag a.samples.now
