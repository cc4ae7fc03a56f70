-- A list that is read as samples has the trimmed fit of those samples: a fit, the residuals, what is kept and the grid given take what is read and nothing else.
-- Assumes nothing.
use Prim.Native.Nat.{ℕ}
use mathlib.Core.Bool.{Bool, true, false}
use mathlib.Core.List.{List, [], ◌∷◌, map}
use mathlib.Core.Path.{◌≡◌, refl, ap, ◌∙◌}
use lib.Dec.{eqb}
use lib.IntN.{ℤ}
use lib.ListN.{length, length-map}
use lib.Ieee.{Float, le}
use Rattle.laws.specs.Call.{answered}
use Rattle.laws.specs.Refusal.{choose, or_else}
use Rattle.sample.specs.declared.MotionSample.{MotionSample}
use Rattle.fit.specs.declared.Fitted.{Fitted}
use Rattle.fit.specs.declared.Fitted.TheVariants.{Refused}
use Rattle.fit.specs.Sums.{Summing, itself}
use Rattle.fit.specs.Fitted.{type_of, refusal_of, translation_by, rot_zoom_by, affine_by, translation_from, rot_zoom_from, affine_from, fit_from, fit_refusal}
use Rattle.fit.proofs.SameSamples.{by-samples}
use Rattle.quantize.specs.Quantize.{linear_of, refit_by, refitted_from, params_of, params_from}
use Rattle.trim.specs.declared.Trimmed.{Trimmed}
use Rattle.trim.specs.declared.TrimmedModel.{TrimmedModel}
use Rattle.trim.specs.Trim.{too_few, residual, residuals_from, cutoff, passing, kept_from, first_from, used_from, last_from}
use Rattle.trim.specs.Trim.{few_refusal, residual_refusal, trim_refusal, flag_refusal, trimmed_as, trimmed_model_as, trimmed_from, trimmed_model_from}
use Rattle.trim.specs.Inner.{samples_in, up_to, sample_at, refused_model}
use Rattle.trim.proofs.Passing.{passing-map}
use Rattle.trim.proofs.Indices.{length-up_to}

module _ {A : Type 0} (read : A → MotionSample) where
  pub fit-mapped : (gm_type : ℕ) (xs : List A) → fit_from itself gm_type (map read xs) ≡ fit_from read gm_type xs
  unfolding translation_from rot_zoom_from affine_from
  fit-mapped gm_type xs =
      by-samples read xs (λ (sum : Summing) (n : ℕ). choose (eqb gm_type 1) (translation_by sum n) (choose (eqb gm_type 2) (rot_zoom_by sum n) (affine_by sum n)))

  pub params-mapped : (f : Fitted) (flag : ℕ) (xs : List A) → params_from itself f flag (map read xs) ≡ params_from read f flag xs
  unfolding params_from refitted_from
  params-mapped f flag xs =
      by-samples read xs (λ (sum : Summing) (n : ℕ). params_of (type_of f) flag (linear_of f flag) (refit_by (linear_of f flag) sum n))

  pub residuals-mapped : (f : Fitted) (xs : List A) → residuals_from itself f (map read xs) ≡ residuals_from read f xs
  residuals-mapped f [] = refl
  residuals-mapped f (x ∷ xs) = ap (λ (l : List Float). residual f (read x) ∷ l) (residuals-mapped f xs)

  pub kept-mapped : (f : Fitted) (xs : List A) → kept_from itself f (map read xs) ≡ map read (kept_from read f xs)
  unfolding kept_from
  kept-mapped f xs =
      ap (λ (rs : List Float). passing (λ (s : MotionSample). le (residual f s) (cutoff rs)) (map read xs)) (residuals-mapped f xs)
      ∙ passing-map read (λ (s : MotionSample). le (residual f s) (cutoff (residuals_from read f xs))) xs

  read-either : (b : Bool) (xs ys : List A) → choose b (map read xs) (map read ys) ≡ map read (choose b xs ys)
  read-either true xs ys = refl
  read-either false xs ys = refl

  module _ (gm_type : ℕ) (xs : List A) where
    abbrev first : Fitted
    first = first_from read gm_type xs

    abbrev kept : List A
    kept = kept_from read first xs

    abbrev used : List A
    used = used_from read gm_type xs

    abbrev last : Fitted
    last = last_from read gm_type xs

    abbrev samples : List MotionSample
    samples = map read xs

    pub used-mapped : used_from itself gm_type samples ≡ map read used
    unfolding used_from
    used-mapped =
        ap (λ (f : Fitted). choose (too_few gm_type (length (kept_from itself f samples))) samples (kept_from itself f samples)) (fit-mapped gm_type xs)
        ∙ ap (λ (l : List MotionSample). choose (too_few gm_type (length l)) samples l) (kept-mapped first xs)
        ∙ ap (λ (n : ℕ). choose (too_few gm_type n) samples (map read kept)) (length-map kept read)
        ∙ read-either (too_few gm_type (length kept)) xs kept

    used-length : length (used_from itself gm_type samples) ≡ length used
    used-length = ap (λ (l : List MotionSample). length l) used-mapped ∙ length-map used read

    pub last-mapped : last_from itself gm_type samples ≡ last
    last-mapped = ap (λ (l : List MotionSample). fit_from itself gm_type l) used-mapped ∙ fit-mapped gm_type used

    abbrev refusal_by : Fitted → List Float → Fitted → ℕ
    refusal_by f rs l = or_else (refusal_of f) (or_else (residual_refusal rs) (refusal_of l))

    pub refusal-mapped : trim_refusal itself gm_type samples ≡ trim_refusal read gm_type xs
    unfolding trim_refusal
    refusal-mapped =
        ap (λ (f : Fitted). refusal_by f (residuals_from itself f samples) (last_from itself gm_type samples)) (fit-mapped gm_type xs)
        ∙ ap (λ (rs : List Float). refusal_by first rs (last_from itself gm_type samples)) (residuals-mapped first xs)
        ∙ ap (λ (l : Fitted). refusal_by first (residuals_from read first xs) l) last-mapped

    abbrev trimmed_by : ℕ → ℕ → Trimmed → Trimmed
    trimmed_by n t a = answered (λ k. trimmed_as (Refused k) 0) (or_else (fit_refusal gm_type n) (or_else (few_refusal gm_type n) t)) a

    pub trimmed-mapped : trimmed_from itself gm_type samples ≡ trimmed_from read gm_type xs
    trimmed-mapped =
        ap (λ (n : ℕ). trimmed_by n (trim_refusal itself gm_type samples) (trimmed_as (last_from itself gm_type samples) (length (used_from itself gm_type samples)))) (length-map xs read)
        ∙ ap (λ (t : ℕ). trimmed_by (length xs) t (trimmed_as (last_from itself gm_type samples) (length (used_from itself gm_type samples)))) refusal-mapped
        ∙ ap (λ (l : Fitted). trimmed_by (length xs) (trim_refusal read gm_type xs) (trimmed_as l (length (used_from itself gm_type samples)))) last-mapped
        ∙ ap (λ (n : ℕ). trimmed_by (length xs) (trim_refusal read gm_type xs) (trimmed_as last n)) used-length

    module _ (flag : ℕ) where
      last-params : params_from itself (last_from itself gm_type samples) flag (used_from itself gm_type samples) ≡ params_from read last flag used
      last-params =
          ap (λ (l : Fitted). params_from itself l flag (used_from itself gm_type samples)) last-mapped
          ∙ ap (λ (ys : List MotionSample). params_from itself last flag ys) used-mapped
          ∙ params-mapped last flag used

      abbrev model_by : ℕ → ℕ → TrimmedModel → TrimmedModel
      model_by n t a =
          answered refused_model (or_else (fit_refusal gm_type n) (or_else (flag_refusal flag) (or_else (few_refusal gm_type n) t))) a

      pub model-mapped : trimmed_model_from itself gm_type flag samples ≡ trimmed_model_from read gm_type flag xs
      model-mapped =
          let ys = used_from itself gm_type samples in
          let ps = params_from itself (last_from itself gm_type samples) flag ys in
          ap (λ (n : ℕ). model_by n (trim_refusal itself gm_type samples) (trimmed_model_as 0 (length ys) ps)) (length-map xs read)
          ∙ ap (λ (t : ℕ). model_by (length xs) t (trimmed_model_as 0 (length ys) ps)) refusal-mapped
          ∙ ap (λ (n : ℕ). model_by (length xs) (trim_refusal read gm_type xs) (trimmed_model_as 0 n ps)) used-length
          ∙ ap (λ (p : List ℤ). model_by (length xs) (trim_refusal read gm_type xs) (trimmed_model_as 0 (length used) p)) last-params

-- as many as were asked for
pub length-samples_in : (given : List MotionSample) (n : ℕ) → length (samples_in given n) ≡ n
length-samples_in given n = length-map (up_to n) (sample_at given) ∙ length-up_to n
