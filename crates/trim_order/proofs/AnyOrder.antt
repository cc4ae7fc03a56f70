-- Two lists in which each word stands equally often have the same fit after trimming, of every type, by bits or refused alike, over equally many words, and the same model on the grid.
-- Assumes nothing.
use Prim.Native.Nat.{ℕ, ◌≤◌}
use mathlib.Core.Bool.{Bool, true, false, not}
use mathlib.Core.List.{List}
use mathlib.Core.Logic.{⊎_elim}
use mathlib.Core.Path.{◌≡◌, sym, ap, ◌∙◌, subst}
use native.Mathlib.Omega.{arith}
use borrow.Author.Tests.{lt-ltb}
use lib.IntN.{ℤ}
use lib.ListN.{length}
use Rattle.laws.specs.Call.{answered}
use Rattle.laws.specs.Refusal.{choose, or_else}
use Rattle.laws.proofs.Call.{answered-refused}
use Rattle.laws.proofs.Cases.{outcome}
use Rattle.laws.proofs.Refusal.{or-else-quiet}
use Rattle.sample.specs.Word.{most_samples}
use Rattle.sample.specs.Sample.{sample_of}
use Rattle.median.specs.Median.{all_finite}
use Rattle.fit.specs.declared.Fitted.{Fitted}
use Rattle.fit.specs.declared.Fitted.TheVariants.{Refused}
use Rattle.fit.specs.Fitted.{refusal_of, type_of, fit_refusal}
use Rattle.quantize.specs.declared.Motion.{Motion}
use Rattle.quantize.specs.Quantize.{linear_of, params_of, params_from}
use Rattle.exact.specs.Words.{Word, Words, SameWords}
use Rattle.exact.proofs.Counts.{same_length, same-or-refused}
use Rattle.exact.proofs.Fits.{same-fit-of}
use Rattle.exact.proofs.Refit.{same-refit, linear-near}
use Rattle.trim.specs.Trim.{too_few, residual, residuals_from, kept_from, first_from, used_from, last_from, few_refusal, flag_refusal, trim_refusal, trimmed_as, trimmed_model_as, trimmed_from, trimmed_model_from}
use Rattle.trim.specs.Inner.{refused_model}
use Rattle.trim.proofs.Passing.{passing-few}
use Rattle.trim_order.proofs.Kept.{each-passing, same-finite, same_kept}

-- a test's answer on both sides
same-choice : (b : Bool) {ws vs us ts : List ℕ} → SameWords ws vs → SameWords us ts → SameWords (choose b ws us) (choose b vs ts)
same-choice true s t = s
same-choice false s t = t

each-choice : (b : Bool) (ws us : List ℕ) → Words ws → Words us → Words (choose b ws us)
each-choice true ws us w u = w
each-choice false ws us w u = u

few-choice : (b : Bool) (ws us : List ℕ) (n : ℕ) → length ws ≤ n → length us ≤ n → length (choose b ws us) ≤ n
few-choice true ws us n w u = w
few-choice false ws us n w u = u

-- ---- the words of the last fit are words of the list

module _ (gm_type : ℕ) (ws : List ℕ) where
  abbrev kept : List ℕ
  kept = kept_from sample_of (first_from sample_of gm_type ws) ws

  words-used : Words ws → Words (used_from sample_of gm_type ws)
  unfolding used_from kept_from
  words-used w = each-choice (too_few gm_type (length kept)) ws kept w (each-passing Word _ ws w)

  few-used : length ws ≤ most_samples → length (used_from sample_of gm_type ws) ≤ most_samples
  unfolding used_from kept_from
  few-used h = few-choice (too_few gm_type (length kept)) ws kept most_samples h (let k : length kept ≤ length ws = passing-few _ ws in omega arith)

module _ {ws vs : List ℕ} (same : SameWords ws vs) (words : Words ws) where
  module _ (few : length ws ≤ most_samples) (gm_type : ℕ) where
    abbrev first : Fitted
    first = first_from sample_of gm_type ws

    same_first : first ≡ first_from sample_of gm_type vs
    same_first = same-fit-of same words few gm_type

    abbrev finite : Bool
    finite = all_finite (residuals_from sample_of first ws)

    also-finite : finite ≡ all_finite (residuals_from sample_of (first_from sample_of gm_type vs) vs)
    also-finite =
        same-finite (λ (w : ℕ). residual first (sample_of w)) same
        ∙ ap (λ (f : Fitted). all_finite (residuals_from sample_of f vs)) same_first

    abbrev refusal_by : Fitted → Bool → Fitted → ℕ
    refusal_by f b l = or_else (refusal_of f) (or_else (choose (not b) 16 0) (refusal_of l))

    abbrev params_over : ℕ → List ℕ → List ℤ
    params_over flag us = params_from sample_of (last_from sample_of gm_type us) flag (used_from sample_of gm_type us)

    -- ---- where a residual isn't finite

    module _ (e : finite ≡ false) where
      refusal-ws : trim_refusal sample_of gm_type ws ≡ or_else (refusal_of first) 16
      unfolding trim_refusal
      refusal-ws = ap (λ (b : Bool). refusal_by first b (last_from sample_of gm_type ws)) e

      refusal-vs : trim_refusal sample_of gm_type vs ≡ or_else (refusal_of first) 16
      unfolding trim_refusal
      refusal-vs =
          ap (λ (f : Fitted). refusal_by f (all_finite (residuals_from sample_of (first_from sample_of gm_type vs) vs)) (last_from sample_of gm_type vs)) (sym same_first)
          ∙ ap (λ (b : Bool). refusal_by first b (last_from sample_of gm_type vs)) (sym also-finite ∙ e)

      some-refusal : or_else (refusal_of first) 16 ≡ 0 → ⊥
      some-refusal z = let q = (or-else-quiet (refusal_of first) 16 z).1 in absurd (omega arith)

    -- ---- where all are finite

    module _ (e : finite ≡ true) where
      abbrev used_by : Fitted → List ℕ → List ℕ
      used_by f us = choose (too_few gm_type (length (kept_from sample_of f us))) us (kept_from sample_of f us)

      those : SameWords (kept_from sample_of first ws) (kept_from sample_of first vs)
      those = same_kept first same e

      same-used : SameWords (used_from sample_of gm_type ws) (used_from sample_of gm_type vs)
      unfolding used_from
      same-used =
          subst (λ (f : Fitted). SameWords (used_by first ws) (used_by f vs)) same_first
          (subst (λ (n : ℕ). SameWords (used_by first ws) (choose (too_few gm_type n) vs (kept_from sample_of first vs))) (same_length those)
          (same-choice (too_few gm_type (length (kept_from sample_of first ws))) same those))

      same-last : last_from sample_of gm_type ws ≡ last_from sample_of gm_type vs
      same-last = same-fit-of same-used (words-used gm_type ws words) (few-used gm_type ws few) gm_type

      same-refusal : trim_refusal sample_of gm_type ws ≡ trim_refusal sample_of gm_type vs
      unfolding trim_refusal
      same-refusal =
          ap (λ (f : Fitted). refusal_by f finite (last_from sample_of gm_type ws)) same_first
          ∙ ap (λ (b : Bool). refusal_by (first_from sample_of gm_type vs) b (last_from sample_of gm_type ws)) also-finite
          ∙ ap (λ (l : Fitted). refusal_by (first_from sample_of gm_type vs) (all_finite (residuals_from sample_of (first_from sample_of gm_type vs) vs)) l) same-last

      same_params : (flag : ℕ) → params_over flag ws ≡ params_over flag vs
      unfolding params_from
      same_params flag =
          let l = last_from sample_of gm_type ws in
          ap (λ (m : Motion). params_of (type_of l) flag (linear_of l flag) m)
          (same-refit same-used (words-used gm_type ws words) (few-used gm_type ws few) (linear_of l flag) (linear-near l flag))
          ∙ ap (λ (f : Fitted). params_from sample_of f flag (used_from sample_of gm_type vs)) same-last

    -- ---- an answer by the count, the trim's number and what is accepted

    module _ {B : Type 0} (refused : ℕ → B) (number : ℕ → ℕ → ℕ) (late : (n t : ℕ) → number n t ≡ 0 → t ≡ 0) (ours theirs : B) (accepted : finite ≡ true → ours ≡ theirs) where
      abbrev answer : ℕ → ℕ → B → B
      answer n t a = answered refused (number n t) a

      by_count : answer (length ws) (trim_refusal sample_of gm_type ws) ours ≡ answer (length vs) (trim_refusal sample_of gm_type ws) ours
      by_count = ap (λ (n : ℕ). answer n (trim_refusal sample_of gm_type ws) ours) (same_length same)

      same_answer : answer (length ws) (trim_refusal sample_of gm_type ws) ours ≡ answer (length vs) (trim_refusal sample_of gm_type vs) theirs
      same_answer =
          by_count
          ∙ ⊎_elim
          (λ (e : finite ≡ true).
          ap (λ (t : ℕ). answer (length vs) t ours) (same-refusal e) ∙ ap (λ (a : B). answer (length vs) (trim_refusal sample_of gm_type vs) a) (accepted e))
          (λ (e : finite ≡ false).
          let k = or_else (refusal_of first) 16 in
          let no : (number (length vs) k ≡ 0 → ⊥) = λ z. some-refusal e (late (length vs) k z) in
          ap (λ (t : ℕ). answer (length vs) t ours) (refusal-ws e)
          ∙ answered-refused refused (number (length vs) k) ours no
          ∙ sym (answered-refused refused (number (length vs) k) theirs no)
          ∙ ap (λ (t : ℕ). answer (length vs) t theirs) (sym (refusal-vs e)))
          (outcome finite)

    short-trimmed : trimmed_from sample_of gm_type ws ≡ trimmed_from sample_of gm_type vs
    short-trimmed =
        same_answer (λ k. trimmed_as (Refused k) 0) (λ n t. or_else (fit_refusal gm_type n) (or_else (few_refusal gm_type n) t))
        (λ n t z. (or-else-quiet (few_refusal gm_type n) t (or-else-quiet (fit_refusal gm_type n) (or_else (few_refusal gm_type n) t) z).1).1)
        (trimmed_as (last_from sample_of gm_type ws) (length (used_from sample_of gm_type ws)))
        (trimmed_as (last_from sample_of gm_type vs) (length (used_from sample_of gm_type vs)))
        (λ e.
        ap (λ (f : Fitted). trimmed_as f (length (used_from sample_of gm_type ws))) (same-last e)
        ∙ ap (λ (n : ℕ). trimmed_as (last_from sample_of gm_type vs) n) (same_length (same-used e)))

    short-model : (flag : ℕ) → trimmed_model_from sample_of gm_type flag ws ≡ trimmed_model_from sample_of gm_type flag vs
    short-model flag =
        same_answer refused_model (λ n t. or_else (fit_refusal gm_type n) (or_else (flag_refusal flag) (or_else (few_refusal gm_type n) t)))
        (λ n t z.
        let q = (or-else-quiet (fit_refusal gm_type n) (or_else (flag_refusal flag) (or_else (few_refusal gm_type n) t)) z).1 in
        (or-else-quiet (few_refusal gm_type n) t (or-else-quiet (flag_refusal flag) (or_else (few_refusal gm_type n) t) q).1).1)
        (trimmed_model_as 0 (length (used_from sample_of gm_type ws)) (params_over flag ws))
        (trimmed_model_as 0 (length (used_from sample_of gm_type vs)) (params_over flag vs))
        (λ e.
        ap (λ (n : ℕ). trimmed_model_as 0 n (params_over flag ws)) (same_length (same-used e))
        ∙ ap (λ (p : List ℤ). trimmed_model_as 0 (length (used_from sample_of gm_type vs)) p) (same_params e flag))

  -- for every type code and any length
  pub same-trimmed : (gm_type : ℕ) → trimmed_from sample_of gm_type ws ≡ trimmed_from sample_of gm_type vs
  same-trimmed gm_type =
      same-or-refused same (trimmed_from sample_of gm_type) (trimmed_as (Refused 1) 0) (λ us h. rw (lt-ltb most_samples (length us) h)) (λ h. short-trimmed h gm_type)

  -- on the grid, whatever the flag
  pub same-trimmed-model : (gm_type flag : ℕ) → trimmed_model_from sample_of gm_type flag ws ≡ trimmed_model_from sample_of gm_type flag vs
  same-trimmed-model gm_type flag =
      same-or-refused same (trimmed_model_from sample_of gm_type flag) (refused_model 1) (λ us h. rw (lt-ltb most_samples (length us) h)) (λ h. short-model h gm_type flag)
