-- A call over the samples of named classes (docs/RULES.md, 'Sets of classes'): the rows of the whole list and of the set, then the call itself over
-- the named samples, in their order. For any list whose elements are read as samples.
-- Assumes nothing.
use Rattle.std.specs.Prelude.{ℕ, Bool, false, List, ltb, ℤ, length}
use Rattle.laws.specs.Binary64.{nought}
use Rattle.laws.specs.Call.{answered}
use Rattle.sample.specs.declared.MotionSample.{MotionSample}
use Rattle.class_set.specs.Set.{chosen}
use Rattle.fit.specs.declared.Fitted.{Fitted}
use Rattle.fit.specs.declared.Fitted.TheVariants.{Refused}
use Rattle.fit.specs.Fitted.{no_type, fit_refusal, fit_from}
use Rattle.score.specs.declared.Score.{Score}
use Rattle.score.specs.Score.{continuous_model, score_as, scored}
use Rattle.quantize.specs.declared.Quantized.{Quantized}
use Rattle.quantize.specs.Quantize.{refused_model, quantized_from}
use Rattle.trim.specs.declared.Trimmed.{Trimmed}
use Rattle.trim.specs.declared.TrimmedModel.{TrimmedModel}
use Rattle.trim.specs.Trim.{trimmed_as, trimmed_from, trimmed_model_from}
use Rattle.elect.specs.declared.Elected.{Elected}
use Rattle.elect.specs.Elect.{stopped, elected_from}
use Rattle.class_rows.specs.Rows.{no_model_or_flag, no_type_or_flag, refused_trimmed_model, set_refusal}

-- those rows, then the call over the named samples
abbrev pub by_class : {A B : Type 0} → (ℕ → B) → Bool → (List A → B) → ℕ → List A → List ℕ → B
by_class refused wrong call set xs classes =
    answered refused (set_refusal wrong set (length xs) classes) (call (chosen set xs classes))

-- ---- the calls, by the set, their own arguments, the list and its classes

-- the zeros of a refused call
abbrev pub refused_score : ℕ → Score
refused_score n = score_as n nought

abbrev pub refused_trim : ℕ → Trimmed
refused_trim n = trimmed_as (Refused n) 0

module _ {A : Type 0} (read : A → MotionSample) where
  -- the fit of a type code, of words the fit of today
  abbrev pub fitted_from : ℕ → List A → Fitted
  fitted_from gm_type xs = answered Refused (fit_refusal gm_type (length xs)) (fit_from read gm_type xs)

  abbrev pub fitted_by : ℕ → ℕ → List A → List ℕ → Fitted
  fitted_by set gm_type xs classes = by_class Refused (no_type gm_type) (fitted_from gm_type) set xs classes

  abbrev pub quantized_by : ℕ → Fitted → ℕ → List A → List ℕ → Quantized
  quantized_by set f flag xs classes = by_class refused_model (no_model_or_flag f flag) (quantized_from read f flag) set xs classes

  abbrev pub scored_by : ℕ → List ℤ → List A → List ℕ → Score
  scored_by set p xs classes = by_class refused_score false (scored read (continuous_model p)) set xs classes

  abbrev pub trimmed_by : ℕ → ℕ → List A → List ℕ → Trimmed
  trimmed_by set gm_type xs classes = by_class refused_trim (no_type gm_type) (trimmed_from read gm_type) set xs classes

  abbrev pub trimmed_model_by : ℕ → ℕ → ℕ → List A → List ℕ → TrimmedModel
  trimmed_model_by set gm_type flag xs classes =
      by_class refused_trimmed_model (no_type_or_flag gm_type flag) (trimmed_model_from read gm_type flag) set xs classes

  abbrev pub elected_by : ℕ → ℕ → List A → List ℕ → Elected
  elected_by set flag xs classes = by_class stopped (ltb 1 flag) (elected_from read flag) set xs classes
