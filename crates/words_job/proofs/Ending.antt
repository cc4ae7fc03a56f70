-- The ends of a job of words carry its read-back; and handed the words of a job's search it reports and leaves what the job does, half planes aside, so that demand 3 holds of it.
-- Assumes nothing.
use Prim.Native.Nat.{ℕ, ◌^◌, ◌<◌}
use mathlib.Core.List.{List}
use mathlib.Core.Logic.{⊎_elim}
use mathlib.Core.Path.{◌≡◌, sym, ap, subst, ◌∙◌}
use borrow.Author.Tests.{ne_eqb}
use lib.ListN.{length, get_or}
use Rattle.laws.proofs.Cases.{eq-or-ne}
use Rattle.search.specs.Search.{sample_words}
use Rattle.job_task.specs.Task.{Task, Lent, Sheet, sheet_in, sheet_of}
use Rattle.job_task.specs.Rows as job
use Rattle.words_task.specs.Rows.{early}
use Rattle.words_task.proofs.Accepted.{ready}
use Rattle.words_task.proofs.AsJob.{Searchable, early-same}
use Rattle.job_outcome.specs.declared.Report.{Report}
use Rattle.job_outcome.specs.Words.{Finished, finish, refused, from_words}
use Rattle.job_outcome.specs.Outcome as ending
use Rattle.job_outcome.specs.Outcome.{finished_in}
use Rattle.job_outcome.specs.Demand3.{ReadBack, Demand3}
use Rattle.job_outcome.proofs.Demand3.{words_back, holds}
use Rattle.job_outcome.proofs.Stages.{refused-early}
use Rattle.job_outcome.proofs.AsJob as words
use Rattle.job.specs.Inner.{finished}
use Rattle.job.proofs.Ending.{finished_from}
use Rattle.words_job.specs.Outcome.{outcome, Done}

module _ (j : Sheet) (blocks header : List ℕ) where
  refused-first : (early j (length blocks) (length header) ≡ 0 → ⊥) → outcome j blocks header ≡ finish (refused (early j (length blocks) (length header))) blocks header
  unfolding outcome
  refused-first h = rw (ne_eqb (early j (length blocks) (length header)) 0 h)

  let-pass : early j (length blocks) (length header) ≡ 0 → outcome j blocks header ≡ from_words j blocks header
  unfolding outcome
  let-pass e = rw e

  -- words of 32 bits
  module _ (fit : (i : ℕ) → get_or j.words i 0 < 2 ^ 32) where
    pub back : (outcome j blocks header).report.refusal ≡ 0 → ReadBack j (outcome j blocks header)
    back e =
        ⊎_elim
        (λ (quiet : early j (length blocks) (length header) ≡ 0).
        let same = let-pass quiet in
        subst (λ (o : Finished). ReadBack j o) (sym same)
        (words_back j blocks header (ready j blocks header fit quiet) (sym (ap (λ (o : Finished). o.report.refusal) same) ∙ e)))
        (λ (h : early j (length blocks) (length header) ≡ 0 → ⊥). absurd (h (sym (ap (λ (o : Finished). o.report.refusal) (refused-first h)) ∙ e)))
        (eq-or-ne (early j (length blocks) (length header)) 0)

    done : {o : Finished} → o ≡ outcome j blocks header → Done j blocks header o
    done e = record { leaves = e; holds = subst (λ (p : Finished). p.report.refusal ≡ 0 → ReadBack j p) (sym e) back }

    -- the call's two ways
    pub done_refused : {n : ℕ} → n ≡ early j (length blocks) (length header) → (n ≡ 0 → ⊥) → {report : Report} → report ≡ refused n → Done j blocks header (finish report blocks header)
    done_refused e h q = done (ap (λ (r : Report). finish r blocks header) (q ∙ ap refused e) ∙ sym (refused-first (λ z. h (e ∙ z))))

    pub done-finished : early j (length blocks) (length header) ≡ 0 → {o : Finished}
        → o ≡ finished j.settings j.form j.types j.models j.prior j.words j.classes blocks header → Done j blocks header o
    done-finished quiet e = done (e ∙ (finished_from j blocks header (ready j blocks header fit quiet) ∙ sym (let-pass quiet)))

-- ---- the words of a job's search

module _ (j : Task) (l : Lent) (s : Searchable j l) where
  pub as-job : outcome (sheet_of j) l.blocks l.header ≡ finished_in (ending.outcome j l)
  as-job =
      let e = early-same j l s in
      ⊎_elim
      (λ (quiet : job.early j l ≡ 0). let-pass (sheet_of j) l.blocks l.header (e ∙ quiet) ∙ sym (words.as-job j l quiet))
      (λ (h : job.early j l ≡ 0 → ⊥).
      refused-first (sheet_of j) l.blocks l.header (λ z. h (sym e ∙ z))
      ∙ (ap (λ (n : ℕ). finish (refused n) l.blocks l.header) e ∙ sym (ap finished_in (refused-early j l h))))
      (eq-or-ne (job.early j l) 0)

  -- however they were come by, in bands too
  pub as-job-of : {ws : List ℕ} → ws ≡ sample_words j.input j.reference j.width j.height
      → outcome (sheet_in j.form ws j.settings j.classes j.types j.models j.prior) l.blocks l.header ≡ finished_in (ending.outcome j l)
  as-job-of e = rw e as-job

  -- so that demand 3 holds of it
  pub demand-3 : (outcome (sheet_of j) l.blocks l.header).report.refusal ≡ 0 → Demand3 j (ending.outcome j l)
  demand-3 e = holds j l (sym (ap (λ (o : Finished). o.report.refusal) as-job) ∙ e)
