-- A job in a run ends as the job with what the run holds.
-- Assumes nothing.
use Prim.Native.Nat.{ℕ}
use mathlib.Core.List.{List}
use mathlib.Core.Path.{◌≡◌, subst}
use Rattle.run.specs.declared.Run.{Run}
use Rattle.job_task.specs.declared.Settings.{Settings}
use Rattle.job_task.specs.Task.{Task, Lent, Sheet, task_in, sheet_in}
use Rattle.job_outcome.specs.Outcome.{Ended}
use Rattle.job_outcome.specs.Done.{Done}
use Rattle.job_outcome.specs.Words.{Finished}
use Rattle.words_job.specs.Outcome as of_words
use Rattle.run_job.specs.Words.{AskedOf, sheet_in_run}
use Rattle.run_job.specs.Job.{Asked, with_flag, in_run}

-- the job with these settings
abbrev pub by : Run → Asked → Settings → Task
by run j s = task_in run.form j.input j.reference j.width j.height s j.classes j.types j.models run.prior

module _ (run : Run) (j : Asked) (l : Lent) {s : Settings} (e : s ≡ with_flag j.settings run.flag) {o : Ended} (d : Done (by run j s) l o) where
  pub flagged : Done (in_run run j) l o
  flagged = subst (λ (s : Settings). Done (by run j s) l o) e d

-- ---- the same of words

abbrev pub by_words : Run → AskedOf → Settings → Sheet
by_words run j s = sheet_in run.form j.words s j.classes j.types j.models run.prior

module _ (run : Run) (j : AskedOf) (blocks header : List ℕ) {s : Settings} (e : s ≡ with_flag j.settings run.flag) {o : Finished} (d : of_words.Done (by_words run j s) blocks header o) where
  pub words-flagged : of_words.Done (sheet_in_run run j) blocks header o
  words-flagged = subst (λ (s : Settings). of_words.Done (by_words run j s) blocks header o) e d
