-- The fit of a type 1 to 3 over a list in range: the call answers it, its refusal is 0 or 6, and unless refused it is of that type, so that the grid accepts it.
-- Assumes nothing.
use Prim.Native.Nat.{ℕ, ◌≤◌}
use mathlib.Core.List.{List}
use mathlib.Core.Logic.{◌⊎◌}
use mathlib.Core.Path.{◌≡◌}
use native.Mathlib.Omega.{arith}
use borrow.Author.Tests.{le-ltb, ne_eqb}
use lib.ListN.{length}
use Rattle.laws.proofs.Call.{answered-accepted}
use Rattle.sample.specs.Sample.{sample_of}
use Rattle.fit.specs.Fitted.{fit_of, fitted, refusal_of, type_of}
use Rattle.fit.proofs.OfType.{fit-of-type}
use Rattle.quantize.specs.Quantize.{params, quantize_refusal, quantized_as, refused_model, quantized_model}

module _ (kind : ℕ) (ws : List ℕ) (least : 1 ≤ kind) (most : kind ≤ 3) where
  -- a job's fit refuses with no number but 6
  pub refusal-or-six : (refusal_of (fit_of kind ws) ≡ 0) ⊎ (refusal_of (fit_of kind ws) ≡ 6)
  refusal-or-six = (fit-of-type sample_of kind ws least most).number

  pub type-asked-for : refusal_of (fit_of kind ws) ≡ 0 → type_of (fit_of kind ws) ≡ kind
  type-asked-for = (fit-of-type sample_of kind ws least most).same

  module _ (few : length ws ≤ 4096) where
    pub fit-answers : fitted kind ws ≡ fit_of kind ws
    fit-answers = rw (le-ltb 4096 (length ws) few, ne_eqb kind 0 (omega arith), le-ltb 3 kind most)

    -- the grid accepts the fitted model
    grid-accepts : (flag : ℕ) → flag ≤ 1 → refusal_of (fit_of kind ws) ≡ 0 → quantize_refusal (fit_of kind ws) flag (length ws) ≡ 0
    grid-accepts flag l e = rw (le-ltb 4096 (length ws) few, type-asked-for e, ne_eqb kind 0 (omega arith), le-ltb 1 flag l)

    pub grid-answers : (flag : ℕ) → flag ≤ 1 → refusal_of (fit_of kind ws) ≡ 0 → quantized_model (fit_of kind ws) flag ws ≡ quantized_as 0 (params (fit_of kind ws) flag ws)
    grid-answers flag l e =
        answered-accepted refused_model (quantize_refusal (fit_of kind ws) flag (length ws)) (quantized_as 0 (params (fit_of kind ws) flag ws)) (grid-accepts flag l e)
