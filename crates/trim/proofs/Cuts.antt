-- What a cut of samples answers, and the limit that its samples are under.
-- Assumes nothing.
use Prim.Native.Nat.{ℕ, zero, suc, ◌≤◌}
use mathlib.Core.Bool.{true}
use mathlib.Core.List.{List}
use mathlib.Core.Path.{◌≡◌, refl, sym, subst, ◌∙◌}
use native.Mathlib.Omega.{arith}
use lib.ListN.{length}
use lib.Ieee.{Float}
use Rattle.laws.specs.Call.{answered}
use Rattle.laws.proofs.Call.{answered-accepted, answered-refused}
use Rattle.sample.specs.declared.MotionSample.{MotionSample}
use Rattle.median.specs.Median.{all_finite}
use Rattle.fit.specs.declared.Fitted.{Fitted}
use Rattle.fit.specs.declared.Fitted.TheVariants.{Refused}
use Rattle.fit.specs.Fitted.{refusal_of}
use Rattle.trim.specs.declared.Cut.{Cut}
use Rattle.trim.specs.Trim.{residuals_from, first_from, used_from, last_from, trim_refusal, trimmed_as}
use Rattle.trim.specs.Inner.{sample_at, up_to, under, cut_as, refused_cut, cut_of, Cuts}
use Rattle.trim.proofs.Answers.{refused-answer, own-decides, last-answer}

module _ (given : List MotionSample) (gm_type n : ℕ) where
  abbrev read : ℕ → MotionSample
  read = sample_at given

  abbrev xs : List ℕ
  xs = up_to n

  pub refused-cuts : (squares : List Float) (k : ℕ) → n ≤ length squares → (k ≡ 0 → ⊥) → trim_refusal read gm_type xs ≡ k → Cuts given gm_type n squares (refused_cut k)
  refused-cuts squares k room h e =
      record { long = room; answers = refused-answer read gm_type xs k h e; within = λ z. absurd (h (sym e ∙ z)) }

  module _ (fitted : refusal_of (first_from read gm_type xs) ≡ 0) (finite : all_finite (residuals_from read (first_from read gm_type xs) xs) ≡ true)
      (squares : List Float) (room : n ≤ length squares) (f : Fitted) (samples : ℕ) (limit : Float)
      (is : f ≡ last_from read gm_type xs) (counted : samples ≡ length (used_from read gm_type xs)) (within : under squares limit n ≡ used_from read gm_type xs) where
    made : (k : ℕ) → refusal_of f ≡ k → Cuts given gm_type n squares (answered refused_cut k (cut_as f samples limit))
    made zero e =
        record {
          long = room;
          answers =
              sym (answered-accepted (λ k. trimmed_as (Refused k) 0) (refusal_of f) (trimmed_as f samples) e) ∙ last-answer read gm_type xs fitted finite f samples is counted;
          within = λ z. within;
        }
    made (suc k) e =
        let no : (suc k ≡ 0 → ⊥) = λ z. absurd (omega arith) in
        subst (λ (c : Cut). Cuts given gm_type n squares c) (sym (answered-refused refused_cut (suc k) (cut_as f samples limit) no))
        (refused-cuts squares (suc k) room no (own-decides read gm_type xs fitted finite f samples is counted ∙ e))

    -- the last fit, or its refusal
    pub made-cuts : Cuts given gm_type n squares (cut_of f samples limit)
    made-cuts = made (refusal_of f) refl
