-- A call over lent samples answers as the definition over their samples: the rows by the lists' lengths, then the call over the named samples.
-- Assumes nothing.
use Prim.Native.Nat.{ℕ, ◌≤◌}
use mathlib.Core.Bool.{Bool}
use mathlib.Core.List.{List, [], ◌∷◌}
use mathlib.Core.Path.{◌≡◌, sym, ap, ◌∙◌}
use native.Mathlib.Omega.{arith}
use borrow.Author.Tests.{le-ltb}
use lib.IntN.{ℤ}
use lib.ListN.{length, length-map}
use lib.Ieee.{Float}
use Rattle.laws.specs.Binary64.{nought}
use Rattle.laws.specs.Loops.{fold}
use Rattle.laws.specs.Refusal.{row, judge, or_else}
use Rattle.laws.proofs.Call.{answered-accepted}
use Rattle.sample.specs.declared.MotionSample.{MotionSample}
use Rattle.sample.specs.Word.{most_samples}
use Rattle.class_set.specs.Set.{named_count}
use Rattle.class_set.proofs.Chosen.{chosen-count, named-few}
use Rattle.fit.specs.declared.Fitted.{Fitted}
use Rattle.fit.specs.declared.Fitted.TheVariants.{Refused}
use Rattle.fit.specs.Sums.{itself}
use Rattle.fit.specs.Fitted.{no_type, type_refusal, fit_refusal, fit_from}
use Rattle.score.specs.Score.{continuous_model, score_step, score_of, scored}
use Rattle.quantize.specs.declared.Refitting.{Refitting}
use Rattle.quantize.specs.Quantize.{quantized_from}
use Rattle.quantize.specs.Inner.{refitting_begun, refitting_step, refitting_ends}
use Rattle.quantize.proofs.Walked.{walk_ends}
use Rattle.refusal.specs.declared.Refusal.{Refusal}
use Rattle.refusal.specs.Number.{number_of}
use Rattle.refusal.proofs.Rows.{above-zero}
use Rattle.by_class.specs.ByClass.{by_class, fitted_from}
use Rattle.class_rows.specs.Rows.{set_refusal}
use Rattle.by_class.proofs.Rows.{Passed, call-passed, call-refused, call-answered}
use Rattle.named_samples.specs.Named.{lent_sample, samples_of, named_samples}

-- ---- a call in code, by the number r that its rows answer and the condition b that it asks for row 4

module _ (wrong : Bool) (set : ℕ) (fours : List (List Float)) (cs : List ℕ) {b : Bool} (w : b ≡ wrong) {r : ℕ} (e : r ≡ set_refusal b set (length fours) cs) where
  counted : r ≡ set_refusal b set (length (samples_of fours)) cs
  counted = e ∙ ap (λ (n : ℕ). set_refusal b set n cs) (sym (length-map fours lent_sample))

  pub lent-passed : r ≡ 0 → Passed wrong set (length fours) cs
  lent-passed = call-passed wrong set fours cs w e

  module _ {B : Type 0} (refused : ℕ → B) (call : List MotionSample → B) where
    lent-refused : (r ≡ 0 → ⊥) → refused r ≡ by_class refused wrong call set (samples_of fours) cs
    lent-refused = call-refused wrong set (samples_of fours) cs w counted refused call

    pub lent-answered : {answer : B} → r ≡ 0 → answer ≡ call (named_samples set fours cs) → answer ≡ by_class refused wrong call set (samples_of fours) cs
    lent-answered = call-answered wrong set (samples_of fours) cs w counted refused call

-- by the refusal that its rows answer
module _ (wrong : Bool) (set : ℕ) (fours : List (List Float)) (cs : List ℕ) {b : Bool} (w : b ≡ wrong) (x : Refusal) (e : number_of x ≡ set_refusal b set (length fours) cs) where
  pub refused-by : {k : ℕ} → k ≡ number_of x → {B : Type 0} (refused : ℕ → B) (call : List MotionSample → B) → refused k ≡ by_class refused wrong call set (samples_of fours) cs
  refused-by {k} n refused call = lent-refused wrong set fours cs w (n ∙ e) refused call (λ z. let h = above-zero x in absurd (omega (arith, h, n, z)))

-- ---- the plain calls over the named samples

module _ (set : ℕ) (fours : List (List Float)) (cs : List ℕ) where
  abbrev named : List MotionSample
  named = named_samples set fours cs

  pub count-named : length fours ≡ length cs → named_count set cs ≡ length named
  count-named e = sym (chosen-count set (samples_of fours) cs (sym e ∙ sym (length-map fours lent_sample)))

  pub few-named : length fours ≤ most_samples → length named ≤ most_samples
  few-named h = omega (arith, named-few set (samples_of fours) cs, length-map fours lent_sample, h)

  -- a type that row 4 let pass, over a list that row 1 let pass
  pub fit-named : (kind : ℕ) {f : Fitted} → Passed (no_type kind) set (length fours) cs → f ≡ fit_from itself kind named → f ≡ fitted_from itself kind named
  fit-named kind p e =
      let quiet : fit_refusal kind (length named) ≡ 0 =
      ap (λ (b : Bool). or_else (judge (row 1 b ∷ [])) (type_refusal kind)) (le-ltb most_samples (length named) (few-named p.few))
      ∙ ap (λ (b : Bool). judge (row 4 b ∷ [])) p.right in
      e ∙ sym (answered-accepted Refused (fit_refusal kind (length named)) (fit_from itself kind named) quiet)

  module _ (e : length fours ≡ length cs) {n : ℕ} (k : n ≡ named_count set cs) where
    pub model-named : (f : Fitted) (flag : ℕ) {t begun : Refitting} → t ≡ fold refitting_step named begun → begun ≡ refitting_begun f flag
        → refitting_ends t n ≡ quantized_from itself f flag named
    model-named f flag {t} s g =
        ap (λ (u : Refitting). refitting_ends u n) (s ∙ ap (fold refitting_step named) g)
        ∙ ap (refitting_ends (fold refitting_step named (refitting_begun f flag))) (k ∙ count-named e)
        ∙ walk_ends itself f flag named

    pub score-named : (p : List ℤ) {sum : Float} → sum ≡ fold (score_step (continuous_model p)) named nought → score_of sum n ≡ scored itself (continuous_model p) named
    score-named p s =
        ap (λ (x : Float). score_of x n) s ∙ ap (score_of (fold (score_step (continuous_model p)) named nought)) (k ∙ count-named e)
