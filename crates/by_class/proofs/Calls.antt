-- The six calls: samples that are read from a list have its answers, lists that agree on the named samples have the same, and all five classes named
-- give the call of today.
-- Assumes nothing.
use Prim.Native.Nat.{ℕ}
use mathlib.Core.Bool.{false}
use mathlib.Core.List.{List, map}
use mathlib.Core.Path.{◌≡◌, ap, ◌∙◌}
use lib.Dec.{ltb}
use lib.IntN.{ℤ}
use lib.ListN.{length, length-map}
use lib.Ieee.{Float}
use Rattle.laws.specs.Binary64.{nought}
use Rattle.laws.specs.Call.{answered}
use Rattle.laws.specs.Loops.{fold}
use Rattle.sample.specs.declared.MotionSample.{MotionSample}
use Rattle.class_set.specs.Set.{all_classes}
use Rattle.fit.specs.declared.Fitted.{Fitted}
use Rattle.fit.specs.declared.Fitted.TheVariants.{Refused}
use Rattle.fit.specs.Sums.{reading, itself}
use Rattle.fit.specs.Fitted.{no_type, fit_refusal, fit_from}
use Rattle.fit.proofs.SameSamples.{fold-map}
use Rattle.score.specs.Score.{continuous_model, score_step, score_of, scored}
use Rattle.quantize.specs.Quantize.{quantize_refusal, refused_model, quantized_as, params_from, quantized_from}
use Rattle.trim.specs.Trim.{trimmed_from, trimmed_model_from}
use Rattle.trim.proofs.Mapped.{fit-mapped, params-mapped, trimmed-mapped, model-mapped}
use Rattle.elect.specs.Elect.{stopped, elected_from}
use Rattle.elect.proofs.Mapped.{elected-mapped}
use Rattle.by_class.specs.ByClass.{refused_score, refused_trim}
use Rattle.class_rows.specs.Rows.{lets_pass, no_type_or_flag, no_model_or_flag, refused_trimmed_model}
use Rattle.by_class.specs.ByClass.{fitted_from, fitted_by, quantized_by, scored_by, trimmed_by, trimmed_model_by, elected_by}
use Rattle.by_class.specs.Agree.{Agree}
use Rattle.by_class.proofs.Named.{all-five, of-read, agree}

module _ {A : Type 0} (read : A → MotionSample) where
  -- ---- they take what is read from their list

  fitted-mapped : (gm_type : ℕ) (xs : List A) → fitted_from itself gm_type (map read xs) ≡ fitted_from read gm_type xs
  fitted-mapped gm_type xs =
      ap (λ (n : ℕ). answered Refused (fit_refusal gm_type n) (fit_from itself gm_type (map read xs))) (length-map xs read)
      ∙ ap (λ (f : Fitted). answered Refused (fit_refusal gm_type (length xs)) f) (fit-mapped read gm_type xs)

  quantized-mapped : (f : Fitted) (flag : ℕ) (xs : List A) → quantized_from itself f flag (map read xs) ≡ quantized_from read f flag xs
  quantized-mapped f flag xs =
      ap (λ (n : ℕ). answered refused_model (quantize_refusal f flag n) (quantized_as 0 (params_from itself f flag (map read xs)))) (length-map xs read)
      ∙ ap (λ (p : List ℤ). answered refused_model (quantize_refusal f flag (length xs)) (quantized_as 0 p)) (params-mapped read f flag xs)

  scored-mapped : (p : List ℤ) (xs : List A) → scored itself (continuous_model p) (map read xs) ≡ scored read (continuous_model p) xs
  scored-mapped p xs =
      ap (λ (n : ℕ). score_of (fold (reading (score_step (continuous_model p)) itself) (map read xs) nought) n) (length-map xs read)
      ∙ ap (λ (acc : Float). score_of acc (length xs)) (fold-map (score_step (continuous_model p)) read xs nought)

  -- ---- the samples that are read from a list, and the list

  module _ (set : ℕ) (xs : List A) (cs : List ℕ) where
    pub read-fit : (gm_type : ℕ) → fitted_by itself set gm_type (map read xs) cs ≡ fitted_by read set gm_type xs cs
    read-fit gm_type = of-read Refused (no_type gm_type) (fitted_from read gm_type) read (fitted_from itself gm_type) (fitted-mapped gm_type) set xs cs

    pub read-model : (f : Fitted) (flag : ℕ) → quantized_by itself set f flag (map read xs) cs ≡ quantized_by read set f flag xs cs
    read-model f flag =
        of-read refused_model (no_model_or_flag f flag) (quantized_from read f flag) read (quantized_from itself f flag) (quantized-mapped f flag) set xs cs

    pub read-score : (p : List ℤ) → scored_by itself set p (map read xs) cs ≡ scored_by read set p xs cs
    read-score p = of-read refused_score false (scored read (continuous_model p)) read (scored itself (continuous_model p)) (scored-mapped p) set xs cs

    pub read-trimmed : (gm_type : ℕ) → trimmed_by itself set gm_type (map read xs) cs ≡ trimmed_by read set gm_type xs cs
    read-trimmed gm_type = of-read refused_trim (no_type gm_type) (trimmed_from read gm_type) read (trimmed_from itself gm_type) (trimmed-mapped read gm_type) set xs cs

    pub read-trimmed-model : (gm_type flag : ℕ) → trimmed_model_by itself set gm_type flag (map read xs) cs ≡ trimmed_model_by read set gm_type flag xs cs
    read-trimmed-model gm_type flag =
        of-read refused_trimmed_model (no_type_or_flag gm_type flag) (trimmed_model_from read gm_type flag) read (trimmed_model_from itself gm_type flag) (λ zs. model-mapped read gm_type zs flag) set xs cs

    pub read-election : (flag : ℕ) → elected_by itself set flag (map read xs) cs ≡ elected_by read set flag xs cs
    read-election flag = of-read stopped (ltb 1 flag) (elected_from read flag) read (elected_from itself flag) (elected-mapped read flag) set xs cs

  -- ---- the same named samples in order

  module _ {set : ℕ} {xs ys : List A} {cs ds : List ℕ} where
    pub agree-fit : (gm_type : ℕ) → Agree read (no_type gm_type) set xs cs ys ds → fitted_by read set gm_type xs cs ≡ fitted_by read set gm_type ys ds
    agree-fit gm_type = agree Refused (no_type gm_type) (fitted_from read gm_type) read (fitted_from itself gm_type) (fitted-mapped gm_type)

    pub agree-model : (f : Fitted) (flag : ℕ) → Agree read (no_model_or_flag f flag) set xs cs ys ds
        → quantized_by read set f flag xs cs ≡ quantized_by read set f flag ys ds
    agree-model f flag = agree refused_model (no_model_or_flag f flag) (quantized_from read f flag) read (quantized_from itself f flag) (quantized-mapped f flag)

    pub agree-score : (p : List ℤ) → Agree read false set xs cs ys ds → scored_by read set p xs cs ≡ scored_by read set p ys ds
    agree-score p = agree refused_score false (scored read (continuous_model p)) read (scored itself (continuous_model p)) (scored-mapped p)

    pub agree-trimmed : (gm_type : ℕ) → Agree read (no_type gm_type) set xs cs ys ds → trimmed_by read set gm_type xs cs ≡ trimmed_by read set gm_type ys ds
    agree-trimmed gm_type = agree refused_trim (no_type gm_type) (trimmed_from read gm_type) read (trimmed_from itself gm_type) (trimmed-mapped read gm_type)

    pub agree-trimmed-model : (gm_type flag : ℕ) → Agree read (no_type_or_flag gm_type flag) set xs cs ys ds
        → trimmed_model_by read set gm_type flag xs cs ≡ trimmed_model_by read set gm_type flag ys ds
    agree-trimmed-model gm_type flag =
        agree refused_trimmed_model (no_type_or_flag gm_type flag) (trimmed_model_from read gm_type flag) read (trimmed_model_from itself gm_type flag) (λ zs. model-mapped read gm_type zs flag)

    pub agree-election : (flag : ℕ) → Agree read (ltb 1 flag) set xs cs ys ds → elected_by read set flag xs cs ≡ elected_by read set flag ys ds
    agree-election flag = agree stopped (ltb 1 flag) (elected_from read flag) read (elected_from itself flag) (elected-mapped read flag)

  -- ---- all five classes

  module _ (xs : List A) (cs : List ℕ) where
    pub all-five-fit : (gm_type : ℕ) → lets_pass (no_type gm_type) all_classes (length xs) cs ≡ 0 → fitted_by read all_classes gm_type xs cs ≡ fitted_from read gm_type xs
    all-five-fit gm_type = all-five Refused (no_type gm_type) (fitted_from read gm_type) xs cs

    pub all-five-model : (f : Fitted) (flag : ℕ) → lets_pass (no_model_or_flag f flag) all_classes (length xs) cs ≡ 0
        → quantized_by read all_classes f flag xs cs ≡ quantized_from read f flag xs
    all-five-model f flag = all-five refused_model (no_model_or_flag f flag) (quantized_from read f flag) xs cs

    pub all-five-score : (p : List ℤ) → lets_pass false all_classes (length xs) cs ≡ 0 → scored_by read all_classes p xs cs ≡ scored read (continuous_model p) xs
    all-five-score p = all-five refused_score false (scored read (continuous_model p)) xs cs

    pub all-five-trimmed : (gm_type : ℕ) → lets_pass (no_type gm_type) all_classes (length xs) cs ≡ 0 → trimmed_by read all_classes gm_type xs cs ≡ trimmed_from read gm_type xs
    all-five-trimmed gm_type = all-five refused_trim (no_type gm_type) (trimmed_from read gm_type) xs cs

    pub all-five-trimmed-model : (gm_type flag : ℕ) → lets_pass (no_type_or_flag gm_type flag) all_classes (length xs) cs ≡ 0
        → trimmed_model_by read all_classes gm_type flag xs cs ≡ trimmed_model_from read gm_type flag xs
    all-five-trimmed-model gm_type flag = all-five refused_trimmed_model (no_type_or_flag gm_type flag) (trimmed_model_from read gm_type flag) xs cs

    pub all-five-election : (flag : ℕ) → lets_pass (ltb 1 flag) all_classes (length xs) cs ≡ 0 → elected_by read all_classes flag xs cs ≡ elected_from read flag xs
    all-five-election flag = all-five stopped (ltb 1 flag) (elected_from read flag) xs cs
