-- `run_job::refusal_of`: the first group that refuses answers.
-- Assumes nothing.
use mathlib.Core.Path.{◌≡◌}
use borrow.Author.Rules.{rules}
use Rattle.std.proofs.Common.{Err}
use Rattle.job_task.proofs.Groups.{stops, goes_on}
use Rattle.run_job.proofs.refusal_of.Goals as goal

pub returns-in_err-list_refusal : goal.returns-in_err-list_refusal
returns-in_err-list_refusal c = let r = c.in_err-list_refusal.field-0.0 in
    let e : c.from_residual.result ≡ Err r = search rules in
    rw e (stops r _ c.in_err-list_refusal.ensures)

pub returns : goal.returns
returns c = goes_on c.in_ok-list_refusal.ensures c.refusal_of.ensures
