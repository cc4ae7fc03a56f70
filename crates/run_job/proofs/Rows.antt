-- The rows of storing in a run by their groups, and what an accepted call or job says of the run.
-- Assumes nothing.
use Prim.Native.Nat.{ℕ, zero, suc}
use mathlib.Core.List.{List}
use mathlib.Core.Path.{◌≡◌, refl, sym, ap, ◌∙◌}
use borrow.Author.Tests.{le-ltb}
use lib.ListN.{length}
use Rattle.laws.specs.Buffer.{onto}
use Rattle.laws.specs.Call.{answered, left}
use Rattle.laws.specs.Refusal.{or_else}
use Rattle.laws.proofs.Call.{answered-refused, left-refused}
use Rattle.laws.proofs.Refusal.{or_else_none, or-else-quiet}
use Rattle.class.specs.Class.{classed}
use Rattle.layout.specs.Form.{blocks_of}
use Rattle.forms.specs.Forms.{codec_of}
use Rattle.block.specs.declared.Stored.{Stored}
use Rattle.block.specs.Frame.{frame_bytes, not_stored}
use Rattle.frame_store.specs.Store.{list_refusal}
use Rattle.frame_store.specs.InForm.{store_refusal_in, stored_in, stored_in_left}
use Rattle.run.specs.declared.Run.{Run}
use Rattle.run.specs.Run.{run_refusal}
use Rattle.refusal.specs.Number.{number_of}
use Rattle.refusal.specs.declared.Refusal.{Refusal}
use Rattle.job_task.specs.Task.{Lent}
use Rattle.job_task.specs.Rows.{early}
use Rattle.job_task.proofs.Accepted.{ready}
use Rattle.job_task.proofs.Groups.{stops}
use Rattle.job.proofs.Ending.{numbered}
use Rattle.run_job.specs.Store.{store_in_run_refusal, stored_in_run, stored_in_run_left}
use Rattle.run_job.specs.Job.{Asked, in_run}

or-else-assoc : (a b c : ℕ) → or_else a (or_else b c) ≡ or_else (or_else a b) c
or-else-assoc zero b c = refl
or-else-assoc (suc a) b c = refl

module _ (run : Run) (frame : ℕ) (ws cs old : List ℕ) where
  abbrev refusal : ℕ
  refusal = store_in_run_refusal run frame ws cs (length old)

  -- what is judged ahead, then storing in the run's form
  abbrev ahead : ℕ
  ahead = or_else (list_refusal ws cs) (run_refusal run)

  abbrev last : ℕ
  last = store_refusal_in run.form frame ws cs (length old)

  grouped : or_else ahead last ≡ refusal
  unfolding store_in_run_refusal
  grouped = sym (or-else-assoc (list_refusal ws cs) (run_refusal run) last)

  pub record Ends (answer : Stored) (left : List ℕ) : Type 0 where
    pub answers : answer ≡ stored_in_run run frame ws cs (length old)
    pub leaves : left ≡ stored_in_run_left run frame ws cs old

  refused : (n : ℕ) → n ≡ refusal → (n ≡ 0 → ⊥) → Ends (not_stored n) old
  refused n e h =
      let stored : Stored = record { refusal = 0; blocks = blocks_of (codec_of run.form).form (length ws) } in
      let blocks = onto (frame_bytes (codec_of run.form) frame (classed ws cs)) old in
      let h' : refusal ≡ 0 → ⊥ = λ z. h (e ∙ z) in
      record {
        answers = ap not_stored e ∙ sym (answered-refused not_stored refusal stored h');
        leaves = sym (left-refused refusal blocks old h');
      }

  -- the two ways through the call
  pub ahead-refuses : (r : Refusal) → number_of r ≡ ahead → {n : ℕ} → n ≡ number_of r → Ends (not_stored n) old
  ahead-refuses r e {n} q = refused n (q ∙ stops r last e ∙ grouped) (λ z. numbered r (sym q ∙ z))

  pub form-decides : ahead ≡ 0 → Ends (stored_in run.form frame ws cs (length old)) (stored_in_left run.form frame ws cs old)
  form-decides z =
      let e = or_else_none ahead last z ∙ grouped in
      record {
        answers = ap (λ (n : ℕ). answered not_stored n (record { refusal = 0; blocks = blocks_of (codec_of run.form).form (length ws) })) e;
        leaves = ap (λ (n : ℕ). left n (onto (frame_bytes (codec_of run.form) frame (classed ws cs)) old) old) e;
      }

-- what is stored in a run is stored in its form, so that `frame_read` reads it back
pub stored-in-form : (run : Run) (frame : ℕ) (ws cs : List ℕ) (room : ℕ) → store_in_run_refusal run frame ws cs room ≡ 0
    → (run_refusal run ≡ 0) × (store_refusal_in run.form frame ws cs room ≡ 0)
unfolding store_in_run_refusal
stored-in-form run frame ws cs room e =
    or-else-quiet (run_refusal run) (store_refusal_in run.form frame ws cs room) (or-else-quiet (list_refusal ws cs) _ e).1

-- a run whose job no early row refuses isn't refused
pub run-right : (run : Run) (j : Asked) (l : Lent) → early (in_run run j) l ≡ 0 → run_refusal run ≡ 0
run-right run j l e =
    let s = (ready (in_run run j) l e).writes.sound in
    rw (le-ltb 1 run.flag s.range.flagged, s.formed, s.within)
