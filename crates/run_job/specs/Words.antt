-- A job of words in a run: the job from its words on with the prior, the flag and the form that the run holds, and the run after it. docs/RULES.md, 'A run of frames', 'Job of words'.
-- Assumes nothing.
use Rattle.std.specs.Prelude.{List, ℕ, ◌≡◌, ℤ}
use Rattle.laws.specs.Call.{left}
use Rattle.run.specs.declared.Run.{Run}
use Rattle.run.specs.Run.{run_of}
use Rattle.job_task.specs.declared.Settings.{Settings}
use Rattle.job_task.specs.Task.{Sheet, sheet_in}
use Rattle.job_outcome.specs.Words.{Finished}
use Rattle.words_job.specs.Outcome.{Done}
use Rattle.run_job.specs.Job.{with_flag}

-- what such a job is handed: words, the settings, a class for each word, the six other types and models
pub record AskedOf : Type 0 where
  pub words : List ℕ
  pub settings : Settings
  pub classes : List ℕ
  pub types : List ℕ
  pub models : List ℤ

abbrev pub asked_of : List ℕ → Settings → List ℕ → List ℕ → List ℤ → AskedOf
asked_of ws s c t m = record { words = ws; settings = s; classes = c; types = t; models = m }

-- the job itself; the settings' own flag isn't looked at
abbrev pub sheet_in_run : Run → AskedOf → Sheet
sheet_in_run run j = sheet_in run.form j.words (with_flag j.settings run.flag) j.classes j.types j.models run.prior

-- an accepted job's seven models are the next prior; a refused one moves nothing
abbrev pub run_behind_words : Run → Finished → Run
run_behind_words run o = left o.report.refusal (run_of o.report.models run.flag run.form) run

-- the whole contract: that of a job of words, its read-back by the prior, flag and form held before it, and the run after
pub record WordsDoneIn (before : Run) (j : AskedOf) (blocks header : List ℕ) (o : Finished) (after : Run) : Type 0 where
  pub job : Done (sheet_in_run before j) blocks header o
  pub run : after ≡ run_behind_words before o
