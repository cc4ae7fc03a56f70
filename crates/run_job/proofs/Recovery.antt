-- The promise of a run, with jobs among its frames and switches: a job's header is read back with the prior and the flag held before it, as demand 3 has it.
-- Assumes nothing.
use Prim.Native.Nat.{ℕ}
use mathlib.Core.Bool.{true, false}
use mathlib.Core.List.{List, [], ◌∷◌}
use mathlib.Core.Logic.{⊎_elim}
use mathlib.Core.Path.{◌≡◌, sym, ap, ◌∙◌}
use lib.Dec.{eqb}
use Rattle.laws.specs.Call.{left}
use Rattle.laws.specs.Refusal.{both}
use Rattle.laws.proofs.Call.{left-accepted, left-refused}
use Rattle.laws.proofs.Cases.{eq-or-ne}
use Rattle.header_read.specs.declared.Models.{Models}
use Rattle.frame_header.proofs.Inter.{inter-models}
use Rattle.run.specs.declared.Run.{Run}
use Rattle.run_frame.specs.declared.FrameModels.{FrameModels}
use Rattle.run.specs.Run.{run_of, started}
use Rattle.run_frame.specs.Frame.{read_on, read_in}
use Rattle.run_frame.specs.Recovery as frames
use Rattle.run_frame.proofs.Answers.{read_plain}
use Rattle.run_frame.proofs.Recovery.{recovered-by, turn-recovered}
use Rattle.job_task.specs.Task.{Lent}
use Rattle.job_outcome.specs.Outcome.{Ended, outcome}
use Rattle.job_outcome.proofs.Stages.{accepted-stages}
use Rattle.job_outcome.proofs.HeaderRead.{header-read-back}
use Rattle.run_job.specs.Job.{Asked, in_run, run_behind}
use Rattle.run_job.specs.Recovery.{Event, plain, job, models_of, turn, Recovery}
use Rattle.run_job.proofs.Rows.{run-right}

module _ (run : Run) (j : Asked) (l : Lent) where
  abbrev o : Ended
  o = outcome (in_run run j) l

  abbrev refusal : ℕ
  refusal = o.report.refusal

  abbrev next : Run
  next = run_of o.report.models run.flag run.form

  pub job_unmoved : (refusal ≡ 0 → ⊥) → (turn run (job j l)).run ≡ run
  job_unmoved h = left-refused refusal next run h

  abbrev header : List ℕ
  header = o.left.header

  -- an accepted job's header, read in the same run
  read_back : refusal ≡ 0 → read_in run false header j.settings.start ≡ record { models = models_of o.report; run = run_behind run o }
  read_back e =
      let right = run-right run j l (accepted-stages (in_run run j) l e).0 in
      read_plain run false header j.settings.start right
      ∙ ap (read_on run) (inter-models header j.settings.start run.flag run.prior ∙ header-read-back (in_run run j) l e)
      ∙ ap (λ (r : Run). record { models = models_of o.report; run = r }) (sym (left-accepted refusal next run e))

  job-recovered : frames.Recovered run (turn run (job j l))
  job-recovered =
      let handed : List frames.Handed = frames.bytes false j.settings.start header ∷ [] in
      let models : List Models = models_of o.report ∷ [] in
      ⊎_elim
      (λ (e : refusal ≡ 0).
      ap (frames.read_all run) (left-accepted refusal handed [] e)
      ∙ ap (λ (a : FrameModels). record { run = a.run; models = a.models ∷ []; accepted = both (eqb a.models.refusal 0) true }) (read_back e)
      ∙ ap (λ (m : List Models). record { run = run_behind run o; models = m; accepted = true }) (sym (left-accepted refusal models [] e)))
      (λ (h : refusal ≡ 0 → ⊥).
      ap (frames.read_all run) (left-refused refusal handed [] h)
      ∙ ap (λ (r : Run). record { run = r; models = []; accepted = true }) (sym (job_unmoved h))
      ∙ ap (λ (m : List Models). record { run = run_behind run o; models = m; accepted = true }) (sym (left-refused refusal models [] h)))
      (eq-or-ne refusal 0)

-- ---- the promise

one-recovered : (run : Run) (e : Event) → frames.Recovered run (turn run e)
one-recovered run (plain e) = turn-recovered run e
one-recovered run (job j l) = job-recovered run j l

-- from any run, right or not
pub recovered : (run : Run) (es : List Event) → frames.Recovered run (frames.turns turn run es)
recovered = recovered-by turn one-recovered

pub recovery : Recovery
recovery = record { recovers = λ flag form es. recovered (started flag form).run es; job_unmoved = job_unmoved }
