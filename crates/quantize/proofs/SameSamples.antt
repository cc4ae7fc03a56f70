-- Lists that are read as the same samples give a fitted model the same numbers on the grid.
-- Assumes nothing.
use Prim.Native.Nat.{ℕ}
use mathlib.Core.List.{List}
use mathlib.Core.Path.{◌≡◌, ap, ◌∙◌}
use lib.ListN.{length}
use Rattle.laws.specs.Call.{answered}
use Rattle.sample.specs.Sample.{sample_of}
use Rattle.fit.specs.declared.Fitted.{Fitted}
use Rattle.fit.specs.Sums.{Summing, sums_of}
use Rattle.fit.specs.Fitted.{type_of}
use Rattle.fit.proofs.SameSamples.{SameSamples, same_length, same-sums}
use Rattle.quantize.specs.declared.Quantized.{Quantized}
use Rattle.quantize.specs.Quantize.{linear_of, refit_by, refitted_from, params_of, params_from, quantize_refusal, refused_model, quantized_as, quantized_model}

-- the answer by the sums over so many samples
abbrev quantized_by : Fitted → ℕ → Summing → ℕ → Quantized
quantized_by f flag sum samples =
    answered refused_model (quantize_refusal f flag samples) (quantized_as 0 (params_of (type_of f) flag (linear_of f flag) (refit_by (linear_of f flag) sum samples)))

pub same-quantized : {ws vs : List ℕ} → SameSamples ws vs → (f : Fitted) (flag : ℕ) → quantized_model f flag ws ≡ quantized_model f flag vs
unfolding params_from refitted_from
same-quantized {ws} {vs} same f flag =
    ap (λ (n : ℕ). quantized_by f flag (sums_of sample_of ws) n) (same_length same)
    ∙ ap (λ (sum : Summing). quantized_by f flag sum (length vs)) (same-sums same)
