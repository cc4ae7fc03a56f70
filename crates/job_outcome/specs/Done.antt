-- The whole contract of a job: how it ends, and demand 3 where it is accepted.
-- docs/RULES.md, 'Job'.
-- Assumes nothing.
use Rattle.std.specs.Prelude.{◌≡◌}
use Rattle.job_task.specs.Task.{Task, Lent}
use Rattle.job_outcome.specs.Outcome.{Ended, outcome}
use Rattle.job_outcome.specs.Demand3.{Demand3}

pub record Done (j : Task) (l : Lent) (o : Ended) : Type 0 where
  pub leaves : o ≡ outcome j l
  pub holds : o.report.refusal ≡ 0 → Demand3 j o
