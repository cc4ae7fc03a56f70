-- A job that elects is refused with no 6 and no 15, and looks at no code of type or trim.
-- Assumes nothing.
use Prim.Native.Nat.{ℕ}
use mathlib.Core.Bool.{true}
use mathlib.Core.Logic.{⊎_elim}
use mathlib.Core.List.{List}
use mathlib.Core.Path.{◌≡◌, ap, ◌∙◌}
use native.Mathlib.Omega.{arith}
use lib.Dec.{eqb}
use lib.IntN.{ℤ}
use lib.ListN.{length}
use Rattle.laws.specs.Refusal.{choose}
use Rattle.header.specs.Writing.{header_bits}
use Rattle.score.specs.Score.{mean_sq_residual}
use Rattle.quantize.specs.Quantize.{row_first}
use Rattle.job_task.specs.Task.{Task, Lent, task_in}
use Rattle.job_task.specs.Rows.{elects, refusal_before, early}
use Rattle.job_model.specs.Assemble.{types_with, models_with}
use Rattle.job_model.specs.Modelled.{own}
use Rattle.job_model.proofs.Refusals.{electing-refusals}
use Rattle.job_outcome.specs.declared.Report.{Report}
use Rattle.job_outcome.specs.Outcome.{ended, samples, named, own_type, late, refusal, refused, accepted, left_by_search, left_by_job, outcome}
use Rattle.job_outcome.proofs.Stages.{electing-never-fifteen, refused-in-second}
use Rattle.job_outcome.proofs.Six.{six-needed}

module _ (j : Task) (l : Lent) (e : elects j.settings ≡ true) where
  pub never-six : refusal j l ≡ 6 → ⊥
  never-six q =
      let six = (six-needed j l q).1 in
      ⊎_elim (λ (z : late j ≡ 0). omega (arith, six)) (λ (z : late j ≡ 16). omega (arith, six)) (electing-refusals j.settings (named j) e)

  pub never-fifteen : refusal j l ≡ 15 → ⊥
  never-fifteen q =
      let late-fifteen = (refused-in-second j l 15 (electing-never-fifteen j l e) q).1 in
      ⊎_elim (λ (z : late j ≡ 0). omega (arith, late-fifteen)) (λ (z : late j ≡ 16). omega (arith, late-fifteen)) (electing-refusals j.settings (named j) e)

-- ends by the same numbers, with the same report and buffers
same_ends : {a a' b b' : ℕ} {r r' : Report} {x x' : Lent} (y z : Lent) → a ≡ a' → b ≡ b' → r ≡ r' → x ≡ x'
    → choose (eqb a 0) (choose (eqb b 0) (ended r x) (ended (refused b) y)) (ended (refused a) z)
    ≡ choose (eqb a' 0) (choose (eqb b' 0) (ended r' x') (ended (refused b') y)) (ended (refused a') z)
same_ends y z p q r s = rw (p, q, r, s)

-- the report of a type and a model
abbrev report_by : Task → ℕ → List ℤ → Report
report_by j kind p =
    let s = j.settings in
    let types = types_with s.reference kind j.types in
    let models = models_with s.reference (row_first kind p) j.models in
    record {
      refusal = 0;
      types = types;
      models = models;
      score = (mean_sq_residual p (named j)).score;
      bits = length (header_bits types models s.flag j.prior);
      samples = samples j;
    }

-- with another type and another trim code
abbrev with_codes : ℕ → ℕ → Task → Task
with_codes gm_type trim j =
    let s = j.settings in
    task_in j.form j.input j.reference j.width j.height
    (record { frame = s.frame; gm_type = gm_type; reference = s.reference; flag = s.flag; trim = trim; elect = s.elect; set = s.set; start = s.start })
    j.classes j.types j.models j.prior

module _ (j : Task) (l : Lent) (e : elects j.settings ≡ true) (gm_type trim : ℕ) where
  same-early : early (with_codes gm_type trim j) l ≡ early j l
  unfolding refusal_before
  same-early = rw e

  same-late : late (with_codes gm_type trim j) ≡ late j
  same-late = rw e

  same-type : own_type (with_codes gm_type trim j) ≡ own_type j
  same-type = rw e

  same-model : own (with_codes gm_type trim j).settings (named j) ≡ own j.settings (named j)
  same-model = rw e

  same-report : accepted (with_codes gm_type trim j) ≡ accepted j
  same-report = ap (λ (k : ℕ). report_by j k (own (with_codes gm_type trim j).settings (named j))) same-type ∙ ap (report_by j (own_type j)) same-model

  same_left : left_by_job (with_codes gm_type trim j) l ≡ left_by_job j l
  same_left = rw e

  pub codes-unread : outcome (with_codes gm_type trim j) l ≡ outcome j l
  unfolding outcome
  codes-unread = same_ends (left_by_search j l) l same-early same-late same-report same_left
