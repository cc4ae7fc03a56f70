-- The six calls over lent samples: lists that agree on the named samples have the same answers, and all five classes named give the lent call without a set.
-- Assumes nothing.
use Prim.Native.Nat.{ℕ}
use mathlib.Core.Bool.{Bool, false}
use mathlib.Core.List.{List}
use mathlib.Core.Path.{◌≡◌, ap, ◌∙◌}
use lib.Dec.{ltb}
use lib.IntN.{ℤ}
use lib.ListN.{length, length-map}
use lib.Ieee.{Float}
use Rattle.laws.specs.Call.{answered}
use Rattle.laws.specs.Refusal.{or_else}
use Rattle.laws.proofs.Refusal.{or-else-nothing}
use Rattle.sample.specs.declared.MotionSample.{MotionSample}
use Rattle.class_set.specs.Set.{all_classes}
use Rattle.fit.specs.declared.Fitted.{Fitted}
use Rattle.fit.specs.declared.Fitted.TheVariants.{Refused}
use Rattle.fit.specs.Sums.{itself}
use Rattle.fit.specs.Fitted.{no_type, list_refusal, fit_answer, translation_from, rot_zoom_from, affine_from}
use Rattle.score.specs.Score.{continuous_model, scored}
use Rattle.quantize.specs.Quantize.{refused_model, quantized_from}
use Rattle.trim.specs.Trim.{trimmed_from, trimmed_model_from}
use Rattle.elect.specs.Elect.{stopped, elected_from}
use Rattle.class_rows.specs.Rows.{lets_pass, no_type_or_flag, no_model_or_flag, refused_trimmed_model}
use Rattle.by_class.specs.ByClass.{by_class, refused_score, refused_trim}
use Rattle.by_class.specs.ByClass.{fitted_from, fitted_by, quantized_by, scored_by, trimmed_by, trimmed_model_by, elected_by}
use Rattle.by_class.specs.Agree.{Pass, Agree}
use Rattle.by_class.proofs.Named.{all-five, same-call}
use Rattle.named_samples.specs.Named.{lent_sample, samples_of}

-- a list has as many samples as were lent
as_lent : (wrong : Bool) (set : ℕ) (xs : List (List Float)) (cs : List ℕ) → lets_pass wrong set (length xs) cs ≡ 0 → lets_pass wrong set (length (samples_of xs)) cs ≡ 0
as_lent wrong set xs cs e = ap (λ (n : ℕ). lets_pass wrong set n cs) (length-map xs lent_sample) ∙ e

-- ---- the same named samples in order, whatever the others are

module _ {set : ℕ} {xs ys : List (List Float)} {cs ds : List ℕ} where
  pub agree : {B : Type 0} (refused : ℕ → B) (wrong : Bool) (call : List MotionSample → B) → Agree lent_sample wrong set xs cs ys ds
      → by_class refused wrong call set (samples_of xs) cs ≡ by_class refused wrong call set (samples_of ys) ds
  agree refused wrong call a =
      let pass : Pass wrong set (samples_of xs) cs (samples_of ys) ds =
      record { first = as_lent wrong set xs cs a.pass.first; second = as_lent wrong set ys ds a.pass.second } in
      same-call refused wrong call pass (ap call a.named)

  pub agree-fit : (gm_type : ℕ) → Agree lent_sample (no_type gm_type) set xs cs ys ds
      → fitted_by itself set gm_type (samples_of xs) cs ≡ fitted_by itself set gm_type (samples_of ys) ds
  agree-fit gm_type = agree Refused (no_type gm_type) (fitted_from itself gm_type)

  pub agree-model : (f : Fitted) (flag : ℕ) → Agree lent_sample (no_model_or_flag f flag) set xs cs ys ds
      → quantized_by itself set f flag (samples_of xs) cs ≡ quantized_by itself set f flag (samples_of ys) ds
  agree-model f flag = agree refused_model (no_model_or_flag f flag) (quantized_from itself f flag)

  pub agree-score : (p : List ℤ) → Agree lent_sample false set xs cs ys ds
      → scored_by itself set p (samples_of xs) cs ≡ scored_by itself set p (samples_of ys) ds
  agree-score p = agree refused_score false (scored itself (continuous_model p))

  pub agree-trimmed : (gm_type : ℕ) → Agree lent_sample (no_type gm_type) set xs cs ys ds
      → trimmed_by itself set gm_type (samples_of xs) cs ≡ trimmed_by itself set gm_type (samples_of ys) ds
  agree-trimmed gm_type = agree refused_trim (no_type gm_type) (trimmed_from itself gm_type)

  pub agree-trimmed-model : (gm_type flag : ℕ) → Agree lent_sample (no_type_or_flag gm_type flag) set xs cs ys ds
      → trimmed_model_by itself set gm_type flag (samples_of xs) cs ≡ trimmed_model_by itself set gm_type flag (samples_of ys) ds
  agree-trimmed-model gm_type flag = agree refused_trimmed_model (no_type_or_flag gm_type flag) (trimmed_model_from itself gm_type flag)

  pub agree-election : (flag : ℕ) → Agree lent_sample (ltb 1 flag) set xs cs ys ds
      → elected_by itself set flag (samples_of xs) cs ≡ elected_by itself set flag (samples_of ys) ds
  agree-election flag = agree stopped (ltb 1 flag) (elected_from itself flag)

-- ---- all five classes

module _ (xs : List (List Float)) (cs : List ℕ) where
  abbrev samples : List MotionSample
  samples = samples_of xs

  lent-all-five : {B : Type 0} (refused : ℕ → B) (wrong : Bool) (call : List MotionSample → B) → lets_pass wrong all_classes (length xs) cs ≡ 0
      → by_class refused wrong call all_classes samples cs ≡ call samples
  lent-all-five refused wrong call h = all-five refused wrong call samples cs (as_lent wrong all_classes xs cs h)

  -- row 4 has nothing to say of a type that there is
  of-type : (f : Fitted) → answered Refused (or_else (list_refusal (length samples)) 0) f ≡ fit_answer (length samples) f
  of-type f = ap (λ (n : ℕ). answered Refused n f) (or-else-nothing (list_refusal (length samples)))

  pub all-five-translation : lets_pass false all_classes (length xs) cs ≡ 0
      → fitted_by itself all_classes 1 samples cs ≡ fit_answer (length samples) (translation_from itself samples)
  all-five-translation h = lent-all-five Refused false (fitted_from itself 1) h ∙ of-type (translation_from itself samples)

  pub all-five-rotzoom : lets_pass false all_classes (length xs) cs ≡ 0
      → fitted_by itself all_classes 2 samples cs ≡ fit_answer (length samples) (rot_zoom_from itself samples)
  all-five-rotzoom h = lent-all-five Refused false (fitted_from itself 2) h ∙ of-type (rot_zoom_from itself samples)

  pub all-five-affine : lets_pass false all_classes (length xs) cs ≡ 0
      → fitted_by itself all_classes 3 samples cs ≡ fit_answer (length samples) (affine_from itself samples)
  all-five-affine h = lent-all-five Refused false (fitted_from itself 3) h ∙ of-type (affine_from itself samples)

  pub all-five-model : (f : Fitted) (flag : ℕ) → lets_pass (no_model_or_flag f flag) all_classes (length xs) cs ≡ 0
      → quantized_by itself all_classes f flag samples cs ≡ quantized_from itself f flag samples
  all-five-model f flag = lent-all-five refused_model (no_model_or_flag f flag) (quantized_from itself f flag)

  pub all-five-score : (p : List ℤ) → lets_pass false all_classes (length xs) cs ≡ 0
      → scored_by itself all_classes p samples cs ≡ scored itself (continuous_model p) samples
  all-five-score p = lent-all-five refused_score false (scored itself (continuous_model p))

  pub all-five-trimmed : (gm_type : ℕ) → lets_pass (no_type gm_type) all_classes (length xs) cs ≡ 0
      → trimmed_by itself all_classes gm_type samples cs ≡ trimmed_from itself gm_type samples
  all-five-trimmed gm_type = lent-all-five refused_trim (no_type gm_type) (trimmed_from itself gm_type)

  pub all-five-trimmed-model : (gm_type flag : ℕ) → lets_pass (no_type_or_flag gm_type flag) all_classes (length xs) cs ≡ 0
      → trimmed_model_by itself all_classes gm_type flag samples cs ≡ trimmed_model_from itself gm_type flag samples
  all-five-trimmed-model gm_type flag = lent-all-five refused_trimmed_model (no_type_or_flag gm_type flag) (trimmed_model_from itself gm_type flag)

  pub all-five-election : (flag : ℕ) → lets_pass (ltb 1 flag) all_classes (length xs) cs ≡ 0
      → elected_by itself all_classes flag samples cs ≡ elected_from itself flag samples
  all-five-election flag = lent-all-five stopped (ltb 1 flag) (elected_from itself flag)
