-- A job in a run: the job with the prior, the flag and the form that the run holds, and the run after it. docs/RULES.md, 'A run of frames', 'Job'.
-- Assumes nothing.
use Rattle.std.specs.Prelude.{ℕ, List, ◌≡◌, ℤ}
use Rattle.laws.specs.Call.{left}
use Rattle.run.specs.declared.Run.{Run}
use Rattle.run.specs.Run.{run_of}
use Rattle.job_task.specs.declared.Settings.{Settings}
use Rattle.job_task.specs.Task.{Task, Lent, task_in}
use Rattle.job_outcome.specs.Outcome.{Ended}
use Rattle.job_outcome.specs.Done.{Done}

-- what such a job is handed: a frame pair, the settings, a class for each sample, the six other types and models
pub record Asked : Type 0 where
  pub input : List ℕ
  pub reference : List ℕ
  pub width : ℕ
  pub height : ℕ
  pub settings : Settings
  pub classes : List ℕ
  pub types : List ℕ
  pub models : List ℤ

abbrev pub asked : List ℕ → List ℕ → ℕ → ℕ → Settings → List ℕ → List ℕ → List ℤ → Asked
asked i r w h s c t m = record { input = i; reference = r; width = w; height = h; settings = s; classes = c; types = t; models = m }

-- the settings' own flag isn't looked at
abbrev pub with_flag : Settings → ℕ → Settings
with_flag s flag =
    record {
      frame = s.frame;
      gm_type = s.gm_type;
      reference = s.reference;
      flag = flag;
      trim = s.trim;
      elect = s.elect;
      set = s.set;
      start = s.start;
    }

-- the job itself
abbrev pub in_run : Run → Asked → Task
in_run run j =
    task_in run.form j.input j.reference j.width j.height (with_flag j.settings run.flag) j.classes j.types j.models run.prior

-- an accepted job's seven models are the next prior; a refused one, after its search too, moves nothing
abbrev pub run_behind : Run → Ended → Run
run_behind run o = left o.report.refusal (run_of o.report.models run.flag run.form) run

-- the whole contract: the job's own, with demand 3 by the prior, flag and form held before it, and the run after
pub record DoneIn (before : Run) (j : Asked) (l : Lent) (o : Ended) (after : Run) : Type 0 where
  pub job : Done (in_run before j) l o
  pub run : after ≡ run_behind before o
