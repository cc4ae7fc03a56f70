-- A fit after trimming, over a list whose elements are read as samples: the first fit, how far each sample lies from
-- it, the samples that stay, and the fit of those if they are enough. docs/RULES.md, 'Trimming'.
-- Assumes nothing.
use Rattle.std.specs.Prelude.{ℕ, Bool, not, List, [], ◌∷◌, map, ltb, eqb, ℤ, pos, length, get_or, replicate, Float}
use Rattle.std.specs.Float.{nan, binary64}
use Rattle.std.specs.Float.Ieee.{lt, le, of_bits}
use Rattle.laws.specs.Refusal.{row, judge, or_else, choose}
use Rattle.laws.specs.Call.{answered}
use Rattle.laws.specs.Binary64.{◌⊗◌, one}
use Rattle.sample.specs.declared.MotionSample.{MotionSample}
use Rattle.root.specs.Root.{root}
use Rattle.median.specs.Median.{median, all_finite}
use Rattle.fit.specs.declared.Fitted.{Fitted}
use Rattle.fit.specs.declared.Fitted.TheVariants.{Refused}
use Rattle.fit.specs.Fitted.{model_of, refusal_of, fit_from, fit_refusal}
use Rattle.score.specs.declared.ContinuousModel.{ContinuousModel}
use Rattle.score.specs.Score.{residual_of}
use Rattle.quantize.specs.Quantize.{params_from}
use Rattle.trim.specs.declared.Trimmed.{Trimmed}
use Rattle.trim.specs.declared.TrimmedModel.{TrimmedModel}

-- the fewest samples of a type: 4 of a TRANSLATION, 6 of a ROTZOOM, 8 of an AFFINE
abbrev pub least_of : ℕ → ℕ
least_of gm_type = choose (eqb gm_type 1) 4 (choose (eqb gm_type 2) 6 8)

abbrev pub too_few : ℕ → ℕ → Bool
too_few gm_type samples = ltb samples (least_of gm_type)

-- the model that a fit stands for
abbrev pub model_at : Fitted → ℕ → Float
model_at f i = get_or (model_of f) i nan

unfoldable pub continuous_fit : Fitted → ContinuousModel
continuous_fit f =
    record { m0 = model_at f 0; m1 = model_at f 1; m2 = model_at f 2; m3 = model_at f 3; m4 = model_at f 4; m5 = model_at f 5 }

-- how far a sample lies from a fit, in pels: the root of its squared residual
abbrev pub residual : Fitted → MotionSample → Float
residual f s = root (residual_of (continuous_fit f) s)

abbrev pub residuals_from : {A : Type 0} → (A → MotionSample) → Fitted → List A → List Float
residuals_from read f xs = map (λ x. residual f (read x)) xs

-- ---- the samples that stay

abbrev pub three : Float
three = of_bits binary64 0x4008_0000_0000_0000

-- the greater of three medians and 1.0
abbrev pub cutoff : List Float → Float
cutoff rs = choose (lt (three ⊗ median rs) one) one (three ⊗ median rs)

-- the elements that pass a test, in their order
abbrev pub passing : {A : Type 0} → (A → Bool) → List A → List A
passing p [] = []
passing p (x ∷ xs) = choose (p x) (x ∷ passing p xs) (passing p xs)

-- those whose residual is at most the cutoff
unfoldable pub kept_from : {A : Type 0} → (A → MotionSample) → Fitted → List A → List A
kept_from read f xs = passing (λ x. le (residual f (read x)) (cutoff (residuals_from read f xs))) xs

-- ---- the fits

abbrev pub first_from : {A : Type 0} → (A → MotionSample) → ℕ → List A → Fitted
first_from read gm_type xs = fit_from read gm_type xs

-- the samples of the last fit made: those kept where they are enough for a second, otherwise all
unfoldable pub used_from : {A : Type 0} → (A → MotionSample) → ℕ → List A → List A
used_from read gm_type xs =
    choose (too_few gm_type (length (kept_from read (first_from read gm_type xs) xs))) xs (kept_from read (first_from read gm_type xs) xs)

abbrev pub last_from : {A : Type 0} → (A → MotionSample) → ℕ → List A → Fitted
last_from read gm_type xs = fit_from read gm_type (used_from read gm_type xs)

-- ---- when it says no

-- row 15: fewer samples than the least
abbrev pub few_refusal : ℕ → ℕ → ℕ
few_refusal gm_type samples = judge (row 15 (too_few gm_type samples) ∷ [])

-- row 16: a residual that isn't finite
abbrev pub residual_refusal : List Float → ℕ
residual_refusal rs = judge (row 16 (not (all_finite rs)) ∷ [])

-- the first fit's 6, then 16, then the second fit's 6
unfoldable pub trim_refusal : {A : Type 0} → (A → MotionSample) → ℕ → List A → ℕ
trim_refusal read gm_type xs =
    or_else (refusal_of (first_from read gm_type xs))
    (or_else (residual_refusal (residuals_from read (first_from read gm_type xs) xs))
    (refusal_of (last_from read gm_type xs)))

-- of a call over a list: 1, 4, 15, then those
abbrev pub trimmed_refusal : {A : Type 0} → (A → MotionSample) → ℕ → List A → ℕ
trimmed_refusal read gm_type xs =
    or_else (fit_refusal gm_type (length xs)) (or_else (few_refusal gm_type (length xs)) (trim_refusal read gm_type xs))

-- ---- the answers

abbrev pub trimmed_as : Fitted → ℕ → Trimmed
trimmed_as f samples = record { fitted = f; used = samples }

-- the last fit, and how many samples it used
abbrev pub trimmed_from : {A : Type 0} → (A → MotionSample) → ℕ → List A → Trimmed
trimmed_from read gm_type xs =
    answered (λ n. trimmed_as (Refused n) 0) (trimmed_refusal read gm_type xs)
    (trimmed_as (last_from read gm_type xs) (length (used_from read gm_type xs)))

-- on the grid, x first, the translation fitted again over the last fit's samples; row 4 has the flag too
abbrev pub flag_refusal : ℕ → ℕ
flag_refusal flag = judge (row 4 (ltb 1 flag) ∷ [])

abbrev pub trimmed_model_refusal : {A : Type 0} → (A → MotionSample) → ℕ → ℕ → List A → ℕ
trimmed_model_refusal read gm_type flag xs =
    or_else (fit_refusal gm_type (length xs))
    (or_else (flag_refusal flag) (or_else (few_refusal gm_type (length xs)) (trim_refusal read gm_type xs)))

abbrev pub trimmed_model_as : ℕ → ℕ → List ℤ → TrimmedModel
trimmed_model_as n samples p = record { refusal = n; used = samples; params = p }

abbrev pub trimmed_model_from : {A : Type 0} → (A → MotionSample) → ℕ → ℕ → List A → TrimmedModel
trimmed_model_from read gm_type flag xs =
    answered (λ n. trimmed_model_as n 0 (replicate 6 (pos 0))) (trimmed_model_refusal read gm_type flag xs)
    (trimmed_model_as 0 (length (used_from read gm_type xs)) (params_from read (last_from read gm_type xs) flag (used_from read gm_type xs)))
