-- A list that row 1 lets pass holds at most 4,096 samples, and a type that row 4 lets pass is 1, 2 or 3.
-- Assumes nothing.
use Prim.Native.Nat.{ℕ, ◌≤◌}
use mathlib.Core.List.{[], ◌∷◌}
use mathlib.Core.Path.{◌≡◌}
use native.Mathlib.Omega.{arith}
use borrow.Author.Tests.{ltb-false, eqb-false}
use lib.Dec.{eqb, ltb}
use Rattle.laws.specs.Refusal.{row}
use Rattle.laws.proofs.Refusal.{quiet, neither, or-else-quiet}
use Rattle.sample.specs.Word.{most_samples}
use Rattle.fit.specs.Fitted.{too_many, no_type, list_refusal, type_refusal, fit_refusal}

pub list-few : (samples : ℕ) → list_refusal samples ≡ 0 → samples ≤ most_samples
list-few samples e = ltb-false most_samples samples (quiet (row 1 (too_many samples) ∷ []) tt e).0

pub fit-few : (gm_type samples : ℕ) → fit_refusal gm_type samples ≡ 0 → samples ≤ most_samples
fit-few gm_type samples e = list-few samples (or-else-quiet (list_refusal samples) (type_refusal gm_type) e).0

pub fit-type : (gm_type samples : ℕ) → fit_refusal gm_type samples ≡ 0 → (1 ≤ gm_type) × (gm_type ≤ 3)
fit-type gm_type samples e =
    let typed = (or-else-quiet (list_refusal samples) (type_refusal gm_type) e).1 in
    let q = neither (eqb gm_type 0) (ltb 3 gm_type) (quiet (row 4 (no_type gm_type) ∷ []) tt typed).0 in
    let some : (gm_type ≡ 0 → ⊥) = eqb-false gm_type 0 q.0 in
    (omega (arith, some), ltb-false 3 gm_type q.1)
