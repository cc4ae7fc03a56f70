-- A job ends in one of three ways, by stages: refused before its search, refused after it, or accepted; the number that it reports is the first stage's that refuses.
-- Assumes nothing.
use Prim.Native.Nat.{ℕ, zero, suc, ◌<◌}
use mathlib.Core.Bool.{Bool, true, false, not}
use mathlib.Core.List.{List, [], ◌∷◌}
use mathlib.Core.Logic.{⊎_elim}
use mathlib.Core.Path.{◌≡◌, refl, sym, ap, ◌∙◌}
use native.Mathlib.Omega.{arith}
use borrow.Author.Tests.{ne_eqb, eq-eqb}
use lib.Dec.{T, eqb}
use lib.ListN.{length}
use Rattle.laws.specs.Refusal.{Row, row, judge, or_else, choose, both}
use Rattle.laws.proofs.Refusal.{or-else-refused, or_else_none, or-else-quiet}
use Rattle.laws.proofs.Cases.{eq-or-ne}
use Rattle.frame_number.specs.Shutter.{closed, shutter_closed, closed_refusal}
use Rattle.job_task.specs.Task.{Task, Lent, sizes_of}
use Rattle.job_task.specs.Rows.{elects, too_little, size_rows, code_rows, model_rows, room_rows, refusal_before, early}
use Rattle.job_outcome.specs.Outcome.{Ended, ended, late, refusal, refused, accepted, left_by_search, left_by_job, outcome}

-- ---- the three ends

module _ (j : Task) (l : Lent) where
  pub refused-early : (early j l ≡ 0 → ⊥) → outcome j l ≡ ended (refused (early j l)) l
  unfolding outcome
  refused-early h = rw (ne_eqb (early j l) 0 h)

  pub refused-late : early j l ≡ 0 → (late j ≡ 0 → ⊥) → outcome j l ≡ ended (refused (late j)) (left_by_search j l)
  unfolding outcome
  refused-late quiet h = rw (quiet, ne_eqb (late j) 0 h)

  pub ends-accepted : early j l ≡ 0 → late j ≡ 0 → outcome j l ≡ ended (accepted j) (left_by_job j l)
  unfolding outcome
  ends-accepted quiet e = rw (quiet, e)

  -- a property of all three is one of the outcome
  pub by-stages : (P : Ended → Type 0)
      → ((early j l ≡ 0 → ⊥) → P (ended (refused (early j l)) l))
      → (early j l ≡ 0 → (late j ≡ 0 → ⊥) → P (ended (refused (late j)) (left_by_search j l)))
      → (early j l ≡ 0 → late j ≡ 0 → P (ended (accepted j) (left_by_job j l)))
      → P (outcome j l)
  by-stages P a b c =
      ⊎_elim
      (λ (quiet : early j l ≡ 0).
      ⊎_elim (λ (e : late j ≡ 0). rw (ends-accepted quiet e) (c quiet e)) (λ (h : late j ≡ 0 → ⊥). rw (refused-late quiet h) (b quiet h)) (eq-or-ne (late j) 0))
      (λ (h : early j l ≡ 0 → ⊥). rw (refused-early h) (a h))
      (eq-or-ne (early j l) 0)

  pub reports : (outcome j l).report.refusal ≡ refusal j l
  reports =
      by-stages (λ (o : Ended). o.report.refusal ≡ refusal j l) (λ h. or-else-refused (early j l) (late j) h)
      (λ quiet h. or_else_none (early j l) (late j) quiet)
      (λ quiet e. sym e ∙ or_else_none (early j l) (late j) quiet)

  -- a job that reports 0 passed both stages
  pub accepted-stages : (outcome j l).report.refusal ≡ 0 → (early j l ≡ 0) × (late j ≡ 0)
  accepted-stages e = or-else-quiet (early j l) (late j) (sym reports ∙ e)

-- ---- numbers that no row has

abbrev pub without : ℕ → List Row → Bool
without k [] = true
without k (r ∷ rs) = both (not (eqb r.number k)) (without k rs)

apart : (b : Bool) (k m n : ℕ) → not (eqb m k) ≡ true → (n ≡ k → ⊥) → choose b m n ≡ k → ⊥
apart true k m n h rest e =
    let z : ◌≡◌ {A = Bool} false true = ap not (sym (eq-eqb m k e)) ∙ h in
    let y : ◌≡◌ {A = ℕ} 0 1 = cc in omega arith
apart false k m n h rest e = rest e

first_of : (a b : Bool) → T (both a b) → (a ≡ true) × T b
first_of true b t = (refl, t)
first_of false b t = absurd t

judge-never : (k : ℕ) (rs : List Row) → T (without k rs) → 0 < k → judge rs ≡ k → ⊥
judge-never k [] t h e = omega arith
judge-never k (r ∷ rs) t h e =
    let f = first_of (not (eqb r.number k)) (without k rs) t in
    apart r.holds k r.number (judge rs) f.0 (judge-never k rs f.1 h) e

or-else-never : (a b k : ℕ) → (a ≡ k → ⊥) → (b ≡ k → ⊥) → or_else a b ≡ k → ⊥
or-else-never zero b k p q e = q e
or-else-never (suc a) b k p q e = p e

module _ (j : Task) (l : Lent) where
  abbrev sizes : List Row
  sizes = size_rows (sizes_of j l) (length j.classes) (length j.types) (length j.models) (length j.prior)

  abbrev codes : List Row
  codes = code_rows j.settings j.form j.classes j.types

  abbrev handed : List Row
  handed = model_rows j.settings j.form j.classes j.types j.models j.prior

  abbrev room : List Row
  room = room_rows (sizes_of j l) j.settings j.form j.classes

  abbrev shutter : List Row
  shutter = row shutter_closed (closed j.settings.frame) ∷ []

  early-never-by : (k : ℕ) → 0 < k → T (without k sizes) → T (without k codes) → T (without k handed) → (judge room ≡ k → ⊥) → T (without k shutter) → early j l ≡ k → ⊥
  unfolding refusal_before closed_refusal
  early-never-by k h a b c d f e =
      or-else-never (judge sizes) _ k (judge-never k sizes a h)
      (or-else-never (judge codes) _ k (judge-never k codes b h) (or-else-never (judge handed) _ k (judge-never k handed c h)
      (or-else-never (judge room) (judge shutter) k d (judge-never k shutter f h)))) e

  early-never : (k : ℕ) → 0 < k → T (without k sizes) → T (without k codes) → T (without k handed) → T (without k room) → T (without k shutter) → early j l ≡ k → ⊥
  early-never k h a b c d f e = early-never-by k h a b c (judge-never k room d h) f e

  pub early-never-six : early j l ≡ 6 → ⊥
  early-never-six = early-never 6 (omega arith) tt tt tt tt tt

  pub early-never-twelve : early j l ≡ 12 → ⊥
  early-never-twelve = early-never 12 (omega arith) tt tt tt tt tt

  pub early-never-sixteen : early j l ≡ 16 → ⊥
  early-never-sixteen = early-never 16 (omega arith) tt tt tt tt tt

  -- a job that elects has no row 15
  pub electing-never-fifteen : elects j.settings ≡ true → early j l ≡ 15 → ⊥
  electing-never-fifteen e = early-never-by 15 (omega arith) tt tt tt (λ q. three-alone (too_little (sizes_of j l) j.form) (sym (room-is e) ∙ q)) tt
    where
      three-alone : (b : Bool) → ◌≡◌ {A = ℕ} (choose b 3 0) 15 → ⊥
      three-alone true q = omega (arith, q)
      three-alone false q = omega (arith, q)

      room-is : elects j.settings ≡ true → ◌≡◌ {A = ℕ} (judge room) (choose (too_little (sizes_of j l) j.form) 3 0)
      room-is e = rw e

  -- a number that no early row has is the second stage's
  pub refused-in-second : (k : ℕ) → (early j l ≡ k → ⊥) → refusal j l ≡ k → (early j l ≡ 0) × (late j ≡ k)
  refused-in-second k never e =
      ⊎_elim
      (λ (quiet : early j l ≡ 0). (quiet, or_else_none (early j l) (late j) quiet ∙ e))
      (λ (h : early j l ≡ 0 → ⊥). absurd (never (or-else-refused (early j l) (late j) h ∙ e)))
      (eq-or-ne (early j l) 0)
