-- Two jobs that agree on the samples of the named classes, however the others differ, report the same: both are refused by the same row, or have the same types, models, score and bits.
-- Assumes nothing.
use Prim.Native.Nat.{ℕ}
use mathlib.Core.Bool.{Bool, true, false}
use mathlib.Core.List.{List}
use mathlib.Core.Path.{◌≡◌, refl, sym, ap, ◌∙◌}
use lib.Dec.{eqb}
use lib.ListN.{length}
use Rattle.laws.specs.Refusal.{judge, choose}
use Rattle.class.specs.Class.{last_class, class_over}
use Rattle.class_set.specs.Set.{named_count}
use Rattle.class_set.proofs.Chosen.{chosen-count}
use Rattle.job_task.specs.Task.{Task, Lent, task_in, sizes_of}
use Rattle.job_task.specs.Rows.{not_held, size_rows, refusal_before, early}
use Rattle.job_task.proofs.Accepted.{lengths}
use Rattle.job_outcome.specs.declared.Report.{Report}
use Rattle.job_outcome.specs.Outcome.{ended, words, named, late, refused, accepted, outcome}
use Rattle.job_outcome.proofs.Samples.{words-length}
use Rattle.job_outcome.proofs.Outside.{held-by-four}

-- what rows 1, 2, 4 and 13 let pass of planes and classes
pub record LetPass (j : Task) (l : Lent) : Type 0 where
  pub sizes : judge (size_rows (sizes_of j l) (length j.classes) (length j.types) (length j.models) (length j.prior)) ≡ 0
  pub low : class_over last_class j.classes ≡ false
  pub held : not_held j.form j.classes ≡ false

-- outside a run rows 1, 2 and 4 are enough
pub outside-pass : (j : Task) (l : Lent) → j.form ≡ 2
    → judge (size_rows (sizes_of j l) (length j.classes) (length j.types) (length j.models) (length j.prior)) ≡ 0
    → class_over last_class j.classes ≡ false → LetPass j l
outside-pass j l second sizes low = record { sizes = sizes; low = low; held = held-by-four j second ∙ low }

-- the job of another frame pair of the same sides, and of other classes
abbrev pub on_others : List ℕ → List ℕ → List ℕ → Task → Task
on_others input reference classes j = task_in j.form input reference j.width j.height j.settings classes j.types j.models j.prior

-- as many samples as the named classes count
named-count : (j : Task) (l : Lent) → LetPass j l → length (named j) ≡ named_count j.settings.set j.classes
named-count j l p =
    let n = lengths (sizes_of j l) (length j.classes) (length j.types) (length j.models) (length j.prior) p.sizes in
    chosen-count j.settings.set (words j) j.classes (n.classed ∙ sym (words-length j))

report-of : (a b : Bool) (x y z : Report) (l m n : Lent)
    → (choose a (choose b (ended x l) (ended y m)) (ended z n)).report ≡ choose a (choose b x y) z
report-of true true x y z l m n = refl
report-of true false x y z l m n = refl
report-of false b x y z l m n = refl

-- what a job reports, by its stages
abbrev report_by : ℕ → ℕ → Report → Report
report_by first second r = choose (eqb first 0) (choose (eqb second 0) r (refused second)) (refused first)

reported : (j : Task) (l : Lent) → (outcome j l).report ≡ report_by (early j l) (late j) (accepted j)
unfolding outcome
reported j l = report-of (eqb (early j l) 0) (eqb (late j) 0) (accepted j) (refused (late j)) (refused (early j l)) _ _ l

module _ (j : Task) (l : Lent) (input reference classes : List ℕ) (agree : named (on_others input reference classes j) ≡ named j) where
  abbrev other : Task
  other = on_others input reference classes j

  same-late : late other ≡ late j
  same-late = rw agree

  same-accepted : accepted other ≡ accepted j
  same-accepted = rw agree

  module _ (p : LetPass j l) (q : LetPass other l) where
    pub same_rows : early other l ≡ early j l
    unfolding refusal_before
    same_rows =
        let counts : named_count j.settings.set classes ≡ named_count j.settings.set j.classes =
        sym (named-count other l q) ∙ (ap length agree ∙ named-count j l p) in
        rw (p.sizes, q.sizes, p.low, q.low, p.held, q.held, counts)

    pub same-report : (outcome other l).report ≡ (outcome j l).report
    same-report = reported other l ∙ (rw (same_rows, same-late, same-accepted) (sym (reported j l)))
