-- What a trim answers, by its cases: the first fit refuses, a residual isn't finite, or a last fit is made; and what the calls make of it. Over any list whose elements are read as samples.
-- Assumes nothing.
use Prim.Native.Nat.{ℕ, zero, suc, ◌≤◌}
use mathlib.Core.Bool.{Bool, true, false, not}
use mathlib.Core.List.{List, [], ◌∷◌}
use mathlib.Core.Path.{◌≡◌, refl, sym, ap, ◌∙◌}
use native.Mathlib.Nat.{le_refl}
use native.Mathlib.Omega.{arith}
use borrow.Author.Tests.{lt-ltb, le-ltb, ne_eqb, ltb-false}
use lib.Dec.{ltb}
use lib.ListN.{length, replicate}
use lib.Ieee.{Float, le}
use Rattle.laws.specs.Binary64.{nought}
use Rattle.laws.specs.Call.{answered}
use Rattle.laws.specs.Refusal.{row, choose, or_else}
use Rattle.laws.proofs.Call.{answered-accepted, answered-refused}
use Rattle.laws.proofs.Refusal.{quiet, or-else-refused, or_else_none, or-else-quiet}
use Rattle.sample.specs.declared.MotionSample.{MotionSample}
use Rattle.sample.specs.Word.{most_samples}
use Rattle.median.specs.Median.{all_finite}
use Rattle.fit.specs.declared.Fitted.{Fitted}
use Rattle.fit.specs.declared.Fitted.TheVariants.{Refused}
use Rattle.fit.specs.Fitted.{refusal_of, type_of, fit_refusal}
use Rattle.fit.proofs.Accepted.{fit-few, fit-type}
use Rattle.fit.proofs.OfType.{fit-of-type}
use Rattle.quantize.specs.declared.Quantized.{Quantized}
use Rattle.quantize.specs.Quantize.{params_from, quantize_refusal, quantized_as, quantized_from}
use Rattle.quantize.specs.Quantize as quantizing
use Rattle.trim.specs.declared.Trimmed.{Trimmed}
use Rattle.trim.specs.declared.TrimmedModel.{TrimmedModel}
use Rattle.trim.specs.Trim.{least_of, too_few, residual, residuals_from, cutoff, kept_from, first_from, used_from, last_from}
use Rattle.trim.specs.Trim.{few_refusal, flag_refusal, residual_refusal, trim_refusal, trimmed_as, trimmed_model_as, trimmed_from, trimmed_model_from}
use Rattle.trim.specs.Inner.{list_refusal, model_refusal, refused_model, model_as, trim_answer, Untrimmed}
use Rattle.trim.proofs.Passing.{passing-few}

or-else-assoc : (a b c : ℕ) → or_else a (or_else b c) ≡ or_else (or_else a b) c
or-else-assoc zero b c = refl
or-else-assoc (suc a) b c = refl

-- ---- what rows 1, 4 and 15 let pass

pub few-passes : (gm_type n : ℕ) → few_refusal gm_type n ≡ 0 → least_of gm_type ≤ n
few-passes gm_type n e = ltb-false n (least_of gm_type) (quiet (row 15 (too_few gm_type n) ∷ []) tt e).0

untrimmed : (gm_type n : ℕ) → fit_refusal gm_type n ≡ 0 → few_refusal gm_type n ≡ 0 → Untrimmed gm_type n (replicate most_samples nought)
untrimmed gm_type n e f = record { few = fit-few gm_type n e; enough = few-passes gm_type n f; clear = refl }

pub list-untrimmed : (gm_type n : ℕ) → list_refusal gm_type n ≡ 0 → Untrimmed gm_type n (replicate most_samples nought)
list-untrimmed gm_type n e =
    let q = or-else-quiet (fit_refusal gm_type n) (few_refusal gm_type n) e in
    untrimmed gm_type n q.0 q.1

module _ (gm_type flag n : ℕ) (e : model_refusal gm_type flag n ≡ 0) where
  pub first-quiet : (fit_refusal gm_type n ≡ 0) × (or_else (flag_refusal flag) (few_refusal gm_type n) ≡ 0)
  first-quiet = or-else-quiet (fit_refusal gm_type n) (or_else (flag_refusal flag) (few_refusal gm_type n)) e

  pub then-quiet : (flag_refusal flag ≡ 0) × (few_refusal gm_type n ≡ 0)
  then-quiet = or-else-quiet (flag_refusal flag) (few_refusal gm_type n) first-quiet.1

  pub model-few : n ≤ most_samples
  model-few = fit-few gm_type n first-quiet.0

  model-type : (1 ≤ gm_type) × (gm_type ≤ 3)
  model-type = fit-type gm_type n first-quiet.0

  model-flag : flag ≤ 1
  model-flag = ltb-false 1 flag (quiet (row 4 (ltb 1 flag) ∷ []) tt then-quiet.0).0

  pub model-untrimmed : Untrimmed gm_type n (replicate most_samples nought)
  model-untrimmed = untrimmed gm_type n first-quiet.0 then-quiet.1

-- a model over a list in range has a place on the grid
quantize-accepts : (f : Fitted) (flag samples : ℕ) → samples ≤ most_samples → (type_of f ≡ 0 → ⊥) → flag ≤ 1 → quantize_refusal f flag samples ≡ 0
quantize-accepts f flag samples h m l = rw (le-ltb 4096 samples h, ne_eqb (type_of f) 0 m, le-ltb 1 flag l)

module _ {A : Type 0} (read : A → MotionSample) (gm_type : ℕ) (xs : List A) where
  abbrev first : Fitted
  first = first_from read gm_type xs

  abbrev residuals : List Float
  residuals = residuals_from read first xs

  abbrev kept : List A
  kept = kept_from read first xs

  abbrev used : List A
  used = used_from read gm_type xs

  abbrev last : Fitted
  last = last_from read gm_type xs

  abbrev refusal : ℕ
  refusal = trim_refusal read gm_type xs

  abbrev refused_as : ℕ → Trimmed
  refused_as k = trimmed_as (Refused k) 0

  abbrev whole : Trimmed
  whole = trimmed_as last (length used)

  -- ---- the samples of the last fit

  pub used_all : suc (length kept) ≤ least_of gm_type → used ≡ xs
  unfolding used_from
  used_all h = ap (λ (b : Bool). choose b xs kept) (lt-ltb (length kept) (least_of gm_type) h)

  pub used-kept : least_of gm_type ≤ length kept → used ≡ kept
  unfolding used_from
  used-kept h = ap (λ (b : Bool). choose b xs kept) (le-ltb (length kept) (least_of gm_type) h)

  either-few : (b : Bool) (ys : List A) → length ys ≤ length xs → length (choose b xs ys) ≤ length xs
  either-few true ys h = le_refl (length xs)
  either-few false ys h = h

  kept-few : length kept ≤ length xs
  unfolding kept_from
  kept-few = passing-few (λ (x : A). le (residual first (read x)) (cutoff residuals)) xs

  pub used-few : length used ≤ length xs
  unfolding used_from
  used-few = either-few (too_few gm_type (length kept)) kept kept-few

  -- ---- the trim

  pub refused-answer : (k : ℕ) → (k ≡ 0 → ⊥) → refusal ≡ k → refused_as k ≡ trim_answer read gm_type xs
  refused-answer k h e = sym (ap (λ (r : ℕ). answered refused_as r whole) e ∙ answered-refused refused_as k whole h)

  pub first-refused : (f : Fitted) → f ≡ first → (refusal_of f ≡ 0 → ⊥) → refusal ≡ refusal_of f
  unfolding trim_refusal
  first-refused f e h =
      sym (or-else-refused (refusal_of first) (or_else (residual_refusal residuals) (refusal_of last)) (λ z. h (ap refusal_of e ∙ z))) ∙ sym (ap refusal_of e)

  module _ (fitted : refusal_of first ≡ 0) where
    pub not_finite : all_finite residuals ≡ false → refusal ≡ 16
    unfolding trim_refusal
    not_finite e =
        ap (λ (k : ℕ). or_else k (or_else (residual_refusal residuals) (refusal_of last))) fitted
        ∙ ap (λ (b : Bool). or_else (choose (not b) 16 0) (refusal_of last)) e

    last-decides : all_finite residuals ≡ true → refusal ≡ refusal_of last
    unfolding trim_refusal
    last-decides e =
        ap (λ (k : ℕ). or_else k (or_else (residual_refusal residuals) (refusal_of last))) fitted
        ∙ ap (λ (b : Bool). or_else (choose (not b) 16 0) (refusal_of last)) e

    module _ (finite : all_finite residuals ≡ true) (f : Fitted) (samples : ℕ) (is : f ≡ last) (counted : samples ≡ length used) where
      pub own-decides : refusal ≡ refusal_of f
      own-decides = last-decides finite ∙ sym (ap refusal_of is)

      -- the last fit, or its refusal
      pub last-answer : answered refused_as (refusal_of f) (trimmed_as f samples) ≡ trim_answer read gm_type xs
      last-answer =
          ap (λ (k : ℕ). answered refused_as k (trimmed_as f samples)) (sym own-decides)
          ∙ ap (λ (g : Fitted). answered refused_as refusal (trimmed_as g samples)) is
          ∙ ap (λ (m : ℕ). answered refused_as refusal (trimmed_as last m)) counted

  last-quiet : refusal ≡ 0 → refusal_of last ≡ 0
  unfolding trim_refusal
  last-quiet e =
      (or-else-quiet (residual_refusal residuals) (refusal_of last)
      (or-else-quiet (refusal_of first) (or_else (residual_refusal residuals) (refusal_of last)) e).1).1

  number-of : (k : ℕ) → refusal ≡ k → refusal_of (trim_answer read gm_type xs).fitted ≡ k
  number-of zero e = ap (λ (t : Trimmed). refusal_of t.fitted) (answered-accepted refused_as refusal whole e) ∙ last-quiet e
  number-of (suc k) e =
      let no : (refusal ≡ 0 → ⊥) = λ z. let x : ◌≡◌ {A = ℕ} (suc k) 0 = sym e ∙ z in absurd (omega arith) in
      ap (λ (t : Trimmed). refusal_of t.fitted) (answered-refused refused_as refusal whole no) ∙ e

  -- ---- the calls, over so many

  module _ (n : ℕ) (long : length xs ≡ n) where
    trimmed-is : trimmed_from read gm_type xs ≡ answered refused_as (or_else (list_refusal gm_type n) refusal) whole
    trimmed-is =
        ap (λ (m : ℕ). answered refused_as (or_else (fit_refusal gm_type m) (or_else (few_refusal gm_type m) refusal)) whole) long
        ∙ ap (λ (k : ℕ). answered refused_as k whole) (or-else-assoc (fit_refusal gm_type n) (few_refusal gm_type n) refusal)

    pub trimmed-refused : (list_refusal gm_type n ≡ 0 → ⊥) → refused_as (list_refusal gm_type n) ≡ trimmed_from read gm_type xs
    trimmed-refused h =
        sym
        (trimmed-is
        ∙ ap (λ (k : ℕ). answered refused_as k whole) (sym (or-else-refused (list_refusal gm_type n) refusal h))
        ∙ answered-refused refused_as (list_refusal gm_type n) whole h)

    pub trimmed-accepted : list_refusal gm_type n ≡ 0 → trim_answer read gm_type xs ≡ trimmed_from read gm_type xs
    trimmed-accepted e =
        ap (λ (k : ℕ). answered refused_as k whole) (or_else_none (list_refusal gm_type n) refusal e) ∙ sym trimmed-is

    module _ (flag : ℕ) where
      abbrev whole_model : TrimmedModel
      whole_model = trimmed_model_as 0 (length used) (params_from read last flag used)

      model_is : trimmed_model_from read gm_type flag xs ≡ answered refused_model (or_else (model_refusal gm_type flag n) refusal) whole_model
      model_is =
          ap (λ (m : ℕ). answered refused_model (or_else (fit_refusal gm_type m) (or_else (flag_refusal flag) (or_else (few_refusal gm_type m) refusal))) whole_model) long
          ∙ ap (λ (k : ℕ). answered refused_model (or_else (fit_refusal gm_type n) k) whole_model) (or-else-assoc (flag_refusal flag) (few_refusal gm_type n) refusal)
          ∙ ap (λ (k : ℕ). answered refused_model k whole_model) (or-else-assoc (fit_refusal gm_type n) (or_else (flag_refusal flag) (few_refusal gm_type n)) refusal)

      pub model-refused : (model_refusal gm_type flag n ≡ 0 → ⊥) → refused_model (model_refusal gm_type flag n) ≡ trimmed_model_from read gm_type flag xs
      model-refused h =
          sym
          (model_is
          ∙ ap (λ (k : ℕ). answered refused_model k whole_model) (sym (or-else-refused (model_refusal gm_type flag n) refusal h))
          ∙ answered-refused refused_model (model_refusal gm_type flag n) whole_model h)

      module _ (listed : model_refusal gm_type flag n ≡ 0) (t : Trimmed) (is : t ≡ trim_answer read gm_type xs) where
        -- the answer's own number is the trim's
        own-number : refusal_of t.fitted ≡ refusal
        own-number = ap (λ (a : Trimmed). refusal_of a.fitted) is ∙ number-of refusal refl

        model-by : trimmed_model_from read gm_type flag xs ≡ answered refused_model (refusal_of t.fitted) whole_model
        model-by =
            model_is ∙ ap (λ (k : ℕ). answered refused_model k whole_model) (sym (or_else_none (model_refusal gm_type flag n) refusal listed) ∙ sym own-number)

        pub model-fit-refused : (refusal_of t.fitted ≡ 0 → ⊥) → refused_model (refusal_of t.fitted) ≡ trimmed_model_from read gm_type flag xs
        model-fit-refused h = sym (model-by ∙ answered-refused refused_model (refusal_of t.fitted) whole_model h)

        module _ (fitted : refusal_of t.fitted ≡ 0) where
          pub quiet-trim : refusal ≡ 0
          quiet-trim = sym own-number ∙ fitted

          is_whole : t ≡ whole
          is_whole = is ∙ answered-accepted refused_as refusal whole quiet-trim

          pub used-counted : t.used ≡ length used
          used-counted = ap (λ (a : Trimmed). a.used) is_whole

          typed : type_of last ≡ 0 → ⊥
          typed e =
              let t = model-type gm_type flag n listed in
              let same : type_of last ≡ gm_type = (fit-of-type read gm_type used t.0 t.1).same (last-quiet quiet-trim) in
              absurd (omega (arith, e, same, t.0))

          on-grid : quantized_from read last flag used ≡ quantized_as 0 (params_from read last flag used)
          on-grid =
              let few : length used ≤ most_samples = omega (arith, used-few, long, model-few gm_type flag n listed) in
              answered-accepted quantizing.refused_model (quantize_refusal last flag (length used)) (quantized_as 0 (params_from read last flag used))
              (quantize-accepts last flag (length used) few typed (model-flag gm_type flag n listed))

          pub model-accepted : (l : List A) → l ≡ used → model_as t.used (quantized_from read t.fitted flag l) ≡ trimmed_model_from read gm_type flag xs
          model-accepted l e =
              ap (λ (a : Trimmed). model_as a.used (quantized_from read a.fitted flag l)) is_whole
              ∙ ap (λ (ys : List A). model_as (length used) (quantized_from read last flag ys)) e
              ∙ ap (λ (q : Quantized). model_as (length used) q) on-grid
              ∙ sym (answered-accepted refused_model (refusal_of t.fitted) whole_model fitted)
              ∙ sym model-by
