-- What an accepted call says, and that exchanging slots 0 and 1 twice is nothing.
-- Assumes nothing.
use Prim.Native.Nat.{ℕ, zero, suc, ◌≤◌}
use mathlib.Core.Bool.{Bool, true, false}
use mathlib.Core.List.{List, [], ◌∷◌}
use mathlib.Core.Path.{◌≡◌, refl}
use native.Mathlib.Omega.{arith}
use borrow.Author.Tests.{ne_eqb, eqb-false, ltb-false}
use lib.Dec.{eqb, ltb}
use lib.IntN.{ℤ}
use lib.ListN.{length}
use Rattle.laws.specs.Refusal.{row, choose}
use Rattle.laws.specs.Call.{answered}
use Rattle.laws.proofs.Refusal.{quiet, or-else-quiet}
use Rattle.fit.specs.declared.Fitted.{Fitted}
use Rattle.fit.specs.Fitted.{type_of, list_refusal}
use Rattle.fit.proofs.Accepted.{list-few}
use Rattle.quantize.specs.Quantize.{params, quantized_as, refused_model, no_model, model_refusal, quantize_refusal, quantized_model, exchange, row_first}
use Rattle.quantize.specs.Inner.{Accepted}

pub accepted : (f : Fitted) (flag samples : ℕ) → quantize_refusal f flag samples ≡ 0 → Accepted f flag samples
accepted f flag samples e =
    let groups = or-else-quiet (list_refusal samples) (model_refusal f flag) e in
    let q = quiet (row 4 (no_model f) ∷ row 4 (ltb 1 flag) ∷ []) tt groups.1 in
    record {
      few = list-few samples groups.0;
      model = eqb-false (type_of f) 0 q.0;
      flagged = ltb-false 1 flag q.1.0;
    }

refusal-shown : (n : ℕ) (p : List ℤ) → (answered refused_model n (quantized_as 0 p)).refusal ≡ n
refusal-shown zero p = refl
refusal-shown (suc n) p = rw (ne_eqb (suc n) 0 (omega arith))

pub refusal_is : (f : Fitted) (flag : ℕ) (ws : List ℕ) → (quantized_model f flag ws).refusal ≡ quantize_refusal f flag (length ws)
refusal_is f flag ws = refusal-shown (quantize_refusal f flag (length ws)) (params f flag ws)

-- ---- the row-first form

twice : (b : Bool) (x y : ℤ) (p : List ℤ) → choose b (exchange (choose b (exchange (x ∷ y ∷ p)) (x ∷ y ∷ p))) (choose b (exchange (x ∷ y ∷ p)) (x ∷ y ∷ p)) ≡ x ∷ y ∷ p
twice true x y p = refl
twice false x y p = refl

pub row-first-twice : (gm_type : ℕ) (p : List ℤ) → 2 ≤ length p → row_first gm_type (row_first gm_type p) ≡ p
row-first-twice gm_type [] h = absurd (omega arith)
row-first-twice gm_type (x ∷ []) h = absurd (omega arith)
row-first-twice gm_type (x ∷ y ∷ p) h = twice (eqb gm_type 1) x y p
