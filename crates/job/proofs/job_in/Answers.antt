-- `job::job_in`: refused by its first rows it leaves all as it was; otherwise the search accepts, the words that it found are the job's, and what follows from them is its outcome, with demand 3.
-- Assumes nothing.
use mathlib.Core.Path.{sym, ◌∙◌}
use borrow.Author.Rules.{rules}
use Rattle.class_set.proofs.Front.{front-count, front-there}
use Rattle.job_task.specs.Task.{Task, Lent, task_of, lend}
use Rattle.job_task.proofs.Accepted.{ready}
use Rattle.job_outcome.proofs.Demand3.{done}
use Rattle.job.proofs.Ending.{done_refused, numbered, found_front, found-naming, ended-found}
use Rattle.job.proofs.job_in.Goals as goal

pub returns-in-Err : goal.returns-in-Err
returns-in-Err c = let a = c.args in
    done_refused (task_of a.pair a.handed) (lend a.input_half.now a.ref_half.now a.words.now a.blocks.now a.header.now)
    (c.number.ensures ∙ c.in-Err.ensures) (λ z. numbered c.in-Err.refusal (sym c.number.ensures ∙ z)) c.refused.ensures

pub slice_bounds-finish-end : goal.slice_bounds-finish-end
slice_bounds-finish-end c = let a = c.args in
    let j : Task = task_of a.pair a.handed in
    let l : Lent = lend a.input_half.now a.ref_half.now a.words.now a.blocks.now a.header.now in
    front-there (found_front j l (ready j l (sym c.in-Ok.ensures)) c.collect_motion_samples-found.ensures)

pub slice_bounds-finish-end-in-Ok : goal.slice_bounds-finish-end-in-Ok
slice_bounds-finish-end-in-Ok c = let a = c.args in
    let j : Task = task_of a.pair a.handed in
    let l : Lent = lend a.input_half.now a.ref_half.now a.words.now a.blocks.now a.header.now in
    front-count (found_front j l (ready j l (sym c.in-Ok.ensures)) c.collect_motion_samples-found.ensures)

pub finish-requires : goal.finish-requires
finish-requires c = let a = c.args in
    let j : Task = task_of a.pair a.handed in
    let l : Lent = lend a.input_half.now a.ref_half.now a.words.now a.blocks.now a.header.now in
    found-naming j l (ready j l (sym c.in-Ok.ensures)) c.collect_motion_samples-found.ensures

pub returns-in-Ok : goal.returns-in-Ok
returns-in-Ok c = let a = c.args in
    let j : Task = task_of a.pair a.handed in
    let l : Lent = lend a.input_half.now a.ref_half.now a.words.now a.blocks.now a.header.now in
    done j l (ended-found j l (sym c.in-Ok.ensures) c.collect_motion_samples-found.ensures c.finish.ensures)
