-- A walk over any list that is read as samples carries model, flag and linear part unchanged, so it ends with the quantized model of that list.
-- Assumes nothing.
use Prim.Native.Nat.{ℕ, zero, suc}
use mathlib.Core.List.{List, [], ◌∷◌}
use mathlib.Core.Path.{◌≡◌, refl, sym, ap, ◌∙◌}
use native.Mathlib.Omega.{arith}
use borrow.Author.Tests.{le-ltb}
use lib.ListN.{length}
use Rattle.laws.specs.Loops.{fold}
use Rattle.laws.proofs.Call.{answered-refused}
use Rattle.laws.proofs.Refusal.{or-else-quiet}
use Rattle.fit.specs.Fitted.{list_refusal}
use Rattle.sample.specs.declared.MotionSample.{MotionSample}
use Rattle.fit.specs.declared.Fitted.{Fitted}
use Rattle.fit.specs.declared.TranslationSums.{TranslationSums}
use Rattle.fit.specs.Sums.{reading, no_sums}
use Rattle.quantize.specs.declared.Linear.{Linear}
use Rattle.quantize.specs.declared.Quantized.{Quantized}
use Rattle.quantize.specs.declared.Refitting.{Refitting}
use Rattle.quantize.specs.Quantize.{linear_of, continuous_linear, refit_totals, refitted_from, params_from, model_refusal, quantize_refusal, quantized_as, refused_model, quantized_from}
use Rattle.quantize.specs.Inner.{refit_step, refitting_from, linear_unless_refused, refitting_begun, refitting_step, refitting_ends}
use Rattle.quantize.proofs.Accepted.{accepted}
use Rattle.quantize.proofs.Leftover.{refit-sums}

-- a walk with other sums
abbrev pub with : Refitting → TranslationSums → Refitting
with t s = record { fitted = t.fitted; flag = t.flag; linear = t.linear; m = t.m; sums = s }

module _ {A : Type 0} (read : A → MotionSample) where
  pub sums_apart : (xs : List A) (t : Refitting) → fold (reading refitting_step read) xs t ≡ with t (fold (reading (refit_step t.m) read) xs t.sums)
  sums_apart [] t = refl
  sums_apart (x ∷ xs) t = sums_apart xs (refitting_step t (read x))

  module _ (f : Fitted) (flag : ℕ) where
    abbrev walked : List A → Refitting
    walked xs = fold (reading refitting_step read) xs (refitting_begun f flag)

    -- of a flag in range the linear part is the definition's
    linear-is : (n : ℕ) → quantize_refusal f flag n ≡ 0 → linear_unless_refused f flag ≡ linear_of f flag
    unfolding linear_unless_refused
    linear-is n e = rw (le-ltb 1 flag (accepted f flag n e).flagged)

    ends-refused : (n : ℕ) → (quantize_refusal f flag n ≡ 0 → ⊥) → (t : Refitting) → t.fitted ≡ f → t.flag ≡ flag → refitting_ends t n ≡ refused_model (quantize_refusal f flag n)
    ends-refused n h t e g = rw (e, g) (answered-refused refused_model (quantize_refusal f flag n) _ h)

    -- where the call is refused, whatever was walked
    pub walk_refused : (n : ℕ) → (quantize_refusal f flag n ≡ 0 → ⊥) → (xs : List A) → refitting_ends (walked xs) n ≡ refused_model (quantize_refusal f flag n)
    walk_refused n h xs =
        let apart = sums_apart xs (refitting_begun f flag) in
        ends-refused n h (walked xs) (ap (λ (s : Refitting). s.fitted) apart) (ap (λ (s : Refitting). s.flag) apart)

    module _ (xs : List A) where
      abbrev n : ℕ
      n = length xs

      -- the answer by a linear part and its sums
      abbrev by : Linear → TranslationSums → Quantized
      by l s = refitting_ends (refitting_from f flag l s) n

      abbrev all : Linear → TranslationSums
      all l = fold (reading (refit_step (continuous_linear l)) read) xs (refit_totals (continuous_linear l) no_sums)

      refitted : by (linear_of f flag) (all (linear_of f flag)) ≡ quantized_from read f flag xs
      unfolding params_from refitted_from
      refitted = ap (by (linear_of f flag)) (refit-sums read (continuous_linear (linear_of f flag)) xs)

      either_way : (k : ℕ) → quantize_refusal f flag n ≡ k → refitting_ends (walked xs) n ≡ quantized_from read f flag xs
      either_way zero e =
          ap (λ (t : Refitting). refitting_ends t n) (sums_apart xs (refitting_begun f flag)) ∙ ap (λ (l : Linear). by l (all l)) (linear-is n e) ∙ refitted
      either_way (suc k) e =
          let no : (quantize_refusal f flag n ≡ 0 → ⊥) = λ z. let x : ◌≡◌ {A = ℕ} (suc k) 0 = sym e ∙ z in absurd (omega arith) in
          walk_refused n no xs ∙ sym (answered-refused refused_model (quantize_refusal f flag n) (quantized_as 0 (params_from read f flag xs)) no)

      -- the whole list
      pub walk_ends : refitting_ends (walked xs) n ≡ quantized_from read f flag xs
      walk_ends = either_way (quantize_refusal f flag n) refl

      -- a list that is too long needs no walk: its refusal answers
      pub unwalked_ends : (list_refusal n ≡ 0 → ⊥) → refitting_ends (refitting_begun f flag) n ≡ quantized_from read f flag xs
      unwalked_ends h =
          let no : (quantize_refusal f flag n ≡ 0 → ⊥) = λ z. h (or-else-quiet (list_refusal n) (model_refusal f flag) z).0 in
          walk_refused n no [] ∙ sym (answered-refused refused_model (quantize_refusal f flag n) (quantized_as 0 (params_from read f flag xs)) no)
