-- A run never comes to be refused by a job either: an accepted job's seven models are priors in range.
-- Assumes nothing.
use Prim.Native.Nat.{ℕ}
use mathlib.Core.Bool.{false}
use mathlib.Core.List.{List}
use mathlib.Core.Logic.{⊎_elim}
use mathlib.Core.Path.{◌≡◌, sym, ap, subst, ◌∙◌}
use native.Mathlib.Omega.{arith}
use borrow.Author.Tests.{le-ltb}
use Rattle.laws.proofs.Call.{left-accepted, left-refused}
use Rattle.laws.proofs.Cases.{eq-or-ne}
use Rattle.models.specs.Models.{priors_out}
use Rattle.header.proofs.Priors.{models-prior}
use Rattle.run.specs.declared.Run.{Run}
use Rattle.run.specs.Run.{codes_wrong, run_of, run_refusal, started}
use Rattle.run_frame.specs.Recovery.{turns}
use Rattle.run_frame.proofs.Sound as frames
use Rattle.job_task.specs.Task.{Task, Lent, sheet_of}
use Rattle.job_task.proofs.Accepted.{ready}
use Rattle.job_outcome.specs.Outcome.{Ended, outcome, types, models}
use Rattle.job_outcome.proofs.Stages.{accepted-stages, ends-accepted}
use Rattle.job_outcome.proofs.Written.{writable}
use Rattle.run_job.specs.Job.{Asked, in_run}
use Rattle.run_job.specs.Recovery.{Event, plain, job, turn}

module _ (j : Task) (l : Lent) (e : (outcome j l).report.refusal ≡ 0) where
  pub models-in : priors_out (outcome j l).report.models ≡ false
  models-in =
      let q = accepted-stages j l e in
      let w = writable (sheet_of j) (ready j l q.0).writes.sound q.1 in
      ap (λ (o : Ended). priors_out o.report.models) (ends-accepted j l q.0 q.1)
      ∙ models-prior (types j) j.settings.flag (models j) (omega (arith, w.seven, w.models)) w.known w.right

pub job-sound : (run : Run) (j : Asked) (l : Lent) → run_refusal run ≡ 0 → run_refusal (turn run (job j l)).run ≡ 0
job-sound run j l right =
    let o : Ended = outcome (in_run run j) l in
    let next : Run = run_of o.report.models run.flag run.form in
    let n : ℕ = o.report.refusal in
    ⊎_elim
    (λ (e : n ≡ 0).
    let s = (ready (in_run run j) l (accepted-stages (in_run run j) l e).0).writes.sound in
    let sound : run_refusal next ≡ 0 = rw (le-ltb 1 run.flag s.range.flagged, s.formed, models-in (in_run run j) l e) in
    subst (λ (r : Run). run_refusal r ≡ 0) (sym (left-accepted n next run e)) sound)
    (λ (h : n ≡ 0 → ⊥). subst (λ (r : Run). run_refusal r ≡ 0) (sym (left-refused n next run h)) right)
    (eq-or-ne n 0)

turn-sound : (run : Run) (e : Event) → run_refusal run ≡ 0 → run_refusal (turn run e).run ≡ 0
turn-sound run (plain e) right = frames.turn-sound run e right
turn-sound run (job j l) right = job-sound run j l right

pub run_sound : (flag form : ℕ) → codes_wrong flag form ≡ false → (es : List Event) → run_refusal (turns turn (started flag form).run es).run ≡ 0
run_sound flag form e es = frames.sound-by turn turn-sound (started flag form).run es (frames.start-sound flag form e)
