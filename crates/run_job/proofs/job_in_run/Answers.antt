-- `run_job::job_in_run`: the job's own contract, with the run's prior, flag and form; the run after it is the definition's.
-- Assumes nothing.
use mathlib.Core.Path.{refl}
use borrow.Author.Rules.{rules}
use Rattle.job_task.specs.Task.{Lent, lend}
use Rattle.run_job.specs.Job.{Asked, asked}
use Rattle.run_job.proofs.Ending.{flagged}
use Rattle.run_job.proofs.job_in_run.Goals as goal

pub returns : goal.returns
returns c = let a = c.args in
    let j : Asked = asked a.input.now a.reference.now a.width a.height a.settings a.classes.now a.types.now a.models.now in
    let l : Lent = lend a.input_half.now a.ref_half.now a.words.now a.blocks.now a.header.now in
    rw (c.stepped.ensures.same, c.stepped.ensures.run_after) (record { job = flagged a.run j l c.with_flag.ensures c.job_in-report.ensures; run = refl })
