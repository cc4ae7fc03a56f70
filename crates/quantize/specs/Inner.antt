-- What the functions below the public calls ask and answer; no public contract cites it.
-- Assumes nothing.
use Rattle.std.specs.Prelude.{ℕ, ◌≤◌, List, ◌≡◌, ltb}
use Rattle.laws.specs.Refusal.{choose}
use Rattle.laws.specs.Call.{answered}
use Rattle.sample.specs.declared.MotionSample.{MotionSample}
use Rattle.sample.specs.Word.{most_samples}
use Rattle.sample.specs.Sample.{sample_of}
use Rattle.fit.specs.declared.Fitted.{Fitted}
use Rattle.fit.specs.declared.TranslationSums.{TranslationSums}
use Rattle.fit.specs.Sums.{plus, sums_of, no_sums}
use Rattle.fit.specs.Fitted.{type_of}
use Rattle.score.specs.declared.ContinuousModel.{ContinuousModel}
use Rattle.quantize.specs.declared.Linear.{Linear}
use Rattle.quantize.specs.declared.Quantized.{Quantized}
use Rattle.quantize.specs.declared.Refitting.{Refitting}
use Rattle.quantize.specs.Quantize.{identity_linear, linear_of, continuous_linear, left_u, left_v, refit_totals, mean_motion, params_of, quantize_refusal, quantized_as, refused_model}

-- a sample added to both sums of the refit
abbrev pub refit_step : ContinuousModel → TranslationSums → MotionSample → TranslationSums
refit_step m t s = record { su = plus (left_u m) t.su s; sv = plus (left_v m) t.sv s }

abbrev pub refit_sums : ContinuousModel → List ℕ → TranslationSums
refit_sums m ws = refit_totals m (sums_of sample_of ws)

-- a walk over samples: what is to be quantized, its linear part as binary64 numbers, and the two sums so far
abbrev pub refitting_from : Fitted → ℕ → Linear → TranslationSums → Refitting
refitting_from f flag l t = record { fitted = f; flag = flag; linear = l; m = continuous_linear l; sums = t }

-- no flag but 0 and 1 has a grid, and the call is then refused
unfoldable pub linear_unless_refused : Fitted → ℕ → Linear
linear_unless_refused f flag = choose (ltb 1 flag) identity_linear (linear_of f flag)

abbrev pub refitting_begun : Fitted → ℕ → Refitting
refitting_begun f flag =
    refitting_from f flag (linear_unless_refused f flag) (refit_totals (continuous_linear (linear_unless_refused f flag)) no_sums)

abbrev pub refitting_step : Refitting → MotionSample → Refitting
refitting_step t s = record { fitted = t.fitted; flag = t.flag; linear = t.linear; m = t.m; sums = refit_step t.m t.sums s }

-- the answer of a walk over so many samples
abbrev pub refitting_ends : Refitting → ℕ → Quantized
refitting_ends t samples =
    answered refused_model (quantize_refusal t.fitted t.flag samples)
    (quantized_as 0 (params_of (type_of t.fitted) t.flag t.linear (mean_motion t.sums samples)))

-- what an accepted call says of its arguments
pub record Accepted (f : Fitted) (flag samples : ℕ) : Type 0 where
  pub few : samples ≤ most_samples
  pub model : type_of f ≡ 0 → ⊥
  pub flagged : flag ≤ 1
