-- `run_job::store`: the lists' rows, then the run's, then the frame is stored in the run's form.
-- Assumes nothing.
use mathlib.Core.Path.{sym, ◌∙◌}
use borrow.Author.Rules.{rules}
use Rattle.run_job.proofs.Rows.{ahead-refuses, form-decides}
use Rattle.run_job.proofs.store.Goals as goal

pub returns-in-Ok : goal.returns-in-Ok
returns-in-Ok c = let a = c.args in
    let d = form-decides a.run a.frame a.words.now a.classes.now a.blocks.now (sym c.in-Ok.ensures) in
    record { value = c.store.ensures.value ∙ d.answers; blocks_after = c.store.ensures.blocks_after ∙ d.leaves }

pub returns-in-Err : goal.returns-in-Err
returns-in-Err c = let a = c.args in
    let d = ahead-refuses a.run a.frame a.words.now a.classes.now a.blocks.now c.in-Err.refusal c.in-Err.ensures c.number.ensures in
    record { value = d.answers; blocks_after = d.leaves }
