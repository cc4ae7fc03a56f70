-- What a run promises with jobs among its frames and switches: a reader begun alike and handed what was accepted recovers each frame's and each job's models and ends
-- in the same run, and what is refused moves nothing. docs/RULES.md, 'A run of frames'.
-- Assumes nothing.
use Rattle.std.specs.Prelude.{ℕ, false, List, [], ◌∷◌, ◌≡◌}
use Rattle.laws.specs.Call.{left}
use Rattle.header_read.specs.declared.Models.{Models}
use Rattle.run.specs.declared.Run.{Run}
use Rattle.run.specs.Run.{started}
use Rattle.run_frame.specs.Recovery as frames
use Rattle.job_task.specs.Task.{Lent}
use Rattle.job_outcome.specs.declared.Report.{Report}
use Rattle.job_outcome.specs.Outcome.{Ended, outcome}
use Rattle.run_job.specs.Job.{Asked, in_run, run_behind}

-- what is asked of a run: a switch or a frame, or a job with the buffers that it is lent
pub data Event : Type 0 where
  plain : frames.Event → Event
  job : Asked → Lent → Event

-- the models of a job's report, as a reader gives them
abbrev pub models_of : Report → Models
models_of r = record { refusal = 0; types = r.types; params = r.models; bits = r.bits }

-- a job is an inter frame: its start and its header are handed on
abbrev pub turn : Run → Event → frames.Turn
turn run (plain e) = frames.turn run e
turn run (job j l) =
    let o : Ended = outcome (in_run run j) l in
    let n : ℕ = o.report.refusal in
    record {
      run = run_behind run o;
      handed = left n (frames.bytes false j.settings.start o.left.header ∷ []) [];
      models = left n (models_of o.report ∷ []) [];
    }

pub record Recovery : Type 0 where
  pub recovers : (flag form : ℕ) (es : List Event) → frames.Recovered (started flag form).run (frames.turns turn (started flag form).run es)
  pub job_unmoved : (run : Run) (j : Asked) (l : Lent) → ((outcome (in_run run j) l).report.refusal ≡ 0 → ⊥) → (turn run (job j l)).run ≡ run
