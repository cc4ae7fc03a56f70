-- Samples that are made from words have the fits, the quantized model and the score of those words.
-- Assumes nothing.
use Prim.Native.Nat.{ℕ}
use mathlib.Core.List.{List, map}
use mathlib.Core.Path.{◌≡◌}
use lib.IntN.{ℤ}
use lib.ListN.{length-map}
use Rattle.laws.specs.Call.{answered}
use Rattle.sample.specs.Sample.{sample_of}
use Rattle.fit.specs.declared.Fitted.{Fitted}
use Rattle.fit.specs.Sums.{Summing, itself}
use Rattle.fit.specs.Fitted.{type_of, translation_by, rot_zoom_by, affine_by, translation_from, rot_zoom_from, affine_from, translation_fit, rot_zoom_fit, affine_fit}
use Rattle.fit.proofs.SameSamples.{fold-map, by-samples}
use Rattle.score.specs.Score.{continuous_model, score_step, scored, mean_sq_residual}
use Rattle.quantize.specs.Quantize.{linear_of, refit_by, refitted_from, params_of, params_from, quantize_refusal, quantized_as, refused_model, quantized_from, quantized_model}

module _ (ws : List ℕ) where
  pub translation-of-words : translation_from itself (map sample_of ws) ≡ translation_fit ws
  unfolding translation_from
  translation-of-words = by-samples sample_of ws translation_by

  pub rotzoom-of-words : rot_zoom_from itself (map sample_of ws) ≡ rot_zoom_fit ws
  unfolding rot_zoom_from
  rotzoom-of-words = by-samples sample_of ws rot_zoom_by

  pub affine-of-words : affine_from itself (map sample_of ws) ≡ affine_fit ws
  unfolding affine_from
  affine-of-words = by-samples sample_of ws affine_by

  pub quantized-of-words : (f : Fitted) (flag : ℕ) → quantized_from itself f flag (map sample_of ws) ≡ quantized_model f flag ws
  unfolding params_from refitted_from
  quantized-of-words f flag =
      by-samples sample_of ws (λ (sum : Summing) (n : ℕ). answered refused_model (quantize_refusal f flag n)
      (quantized_as 0 (params_of (type_of f) flag (linear_of f flag) (refit_by (linear_of f flag) sum n))))

  pub score-of-words : (p : List ℤ) → scored itself (continuous_model p) (map sample_of ws) ≡ mean_sq_residual p ws
  score-of-words p = rw (length-map ws sample_of, fold-map (score_step (continuous_model p)) sample_of ws)
