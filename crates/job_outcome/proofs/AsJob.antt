-- From the search's words on, a job ends as the job does: the report, the blocks and the header are the same.
-- Assumes nothing.
use mathlib.Core.Logic.{⊎_elim}
use mathlib.Core.Path.{◌≡◌, ap, ◌∙◌}
use borrow.Author.Tests.{ne_eqb}
use Rattle.laws.proofs.Cases.{eq-or-ne}
use Rattle.job_task.specs.Task.{Task, Lent, sheet_of}
use Rattle.job_task.specs.Rows.{early}
use Rattle.job_outcome.specs.Words.{late, from_words}
use Rattle.job_outcome.specs.Outcome.{finished_in, outcome}
use Rattle.job_outcome.proofs.Stages.{refused-late, ends-accepted}
use Rattle.job_outcome.proofs.Demand3.{as-words}

pub as-job : (j : Task) (l : Lent) → early j l ≡ 0 → finished_in (outcome j l) ≡ from_words (sheet_of j) l.blocks l.header
as-job j l quiet =
    ⊎_elim
    (λ (z : late (sheet_of j) ≡ 0). rw z (ap finished_in (ends-accepted j l quiet z) ∙ as-words j l z))
    (λ (h : late (sheet_of j) ≡ 0 → ⊥). rw (ne_eqb (late (sheet_of j)) 0 h) (ap finished_in (refused-late j l quiet h)))
    (eq-or-ne (late (sheet_of j)) 0)
