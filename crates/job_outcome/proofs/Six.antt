-- Rows 6 and 16 hold of a job exactly when no earlier row does and its model is refused so; and a fit refuses exactly when an elimination does.
-- Assumes nothing.
use mathlib.Core.List.{List}
use mathlib.Core.Logic.{◌⊎◌, ◌↔◌}
use mathlib.Core.Path.{◌≡◌, sym, ◌∙◌}
use Prim.Native.Nat.{ℕ}
use Rattle.laws.proofs.Refusal.{or_else_none}
use Rattle.solve.specs.Elimination.{singular}
use Rattle.solve.specs.Solution.{solved}
use Rattle.fit.specs.Sums.{count_of, rot_zoom_sums, affine_sums}
use Rattle.fit.specs.Fitted.{fit_of, refusal_of, rot_zoom_system, affine_u, affine_v}
use Rattle.fit.proofs.Refusals.{rotzoom-refuses, affine-refuses, translation-never-refuses}
use Rattle.job_task.specs.Task.{Task, Lent}
use Rattle.job_task.specs.Rows.{early}
use Rattle.job_outcome.specs.Outcome.{late, refusal}
use Rattle.job_outcome.proofs.Stages.{early-never-six, early-never-sixteen, refused-in-second}

module _ (j : Task) (l : Lent) where
  pub six-enough : early j l ≡ 0 → late j ≡ 6 → refusal j l ≡ 6
  six-enough quiet e = sym (or_else_none (early j l) (late j) quiet) ∙ e

  pub six-needed : refusal j l ≡ 6 → (early j l ≡ 0) × (late j ≡ 6)
  six-needed e = refused-in-second j l 6 (early-never-six j l) e

  pub sixteen-enough : early j l ≡ 0 → late j ≡ 16 → refusal j l ≡ 16
  sixteen-enough quiet e = sym (or_else_none (early j l) (late j) quiet) ∙ e

  pub sixteen-needed : refusal j l ≡ 16 → (early j l ≡ 0) × (late j ≡ 16)
  sixteen-needed e = refused-in-second j l 16 (early-never-sixteen j l) e

-- the fit of each type
pub translation-never : (ws : List ℕ) → refusal_of (fit_of 1 ws) ≡ 0
translation-never ws = translation-never-refuses ws

pub rotzoom-by-elimination : (ws : List ℕ) → (refusal_of (fit_of 2 ws) ≡ 6) ↔ ((solved 4 (rot_zoom_system (rot_zoom_sums ws) (count_of ws))).outcome ≡ singular)
rotzoom-by-elimination ws = rotzoom-refuses ws

pub affine-by-elimination : (ws : List ℕ) → (refusal_of (fit_of 3 ws) ≡ 6)
    ↔ (((solved 3 (affine_u (affine_sums ws) (count_of ws))).outcome ≡ singular) ⊎ ((solved 3 (affine_v (affine_sums ws) (count_of ws))).outcome ≡ singular))
affine-by-elimination ws = affine-refuses ws
