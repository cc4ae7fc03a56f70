-- The two fits of a trim over words: what the first leaves to the second, and the answer of each case.
-- Assumes nothing.
use Prim.Native.Nat.{ℕ, ◌+◌, ◌≤◌, ◌<◌}
use mathlib.Core.Bool.{Bool, true, false}
use mathlib.Core.List.{List, map}
use mathlib.Core.Path.{◌≡◌, sym, ap, subst, ◌∙◌}
use native.Mathlib.Omega.{arith}
use borrow.Author.Tests.{le-ltb}
use lib.ListN.{length, take, drop, length-append, length-map}
use lib.Seq.{take_at}
use lib.Ieee.{Float, inf}
use Rattle.laws.specs.Buffer.{onto}
use Rattle.laws.specs.Chosen.{chosen_by, Front}
use Rattle.laws.proofs.Call.{answered-accepted}
use Rattle.laws.proofs.Chosen.{chosen-few}
use Rattle.laws.proofs.Refusal.{or-else-quiet}
use Rattle.sample.specs.Word.{most_samples}
use Rattle.sample.specs.Sample.{sample_of}
use Rattle.root.specs.Root.{root}
use Rattle.median.specs.Inner.{Findable}
use Rattle.median.specs.Median.{all_finite}
use Rattle.fit.specs.declared.Fitted.{Fitted}
use Rattle.fit.specs.declared.Fitted.TheVariants.{Refused}
use Rattle.fit.specs.Fitted.{refusal_of, type_refusal, list_refusal, fit_refusal, fit_from, fit_of, fitted}
use Rattle.fit.proofs.Accepted.{fit-few}
use Rattle.quantize.specs.Quantize.{quantized_model}
use Rattle.trim.specs.declared.Trimmed.{Trimmed}
use Rattle.trim.specs.declared.TrimmedModel.{TrimmedModel}
use Rattle.trim.specs.Trim.{least_of, residuals_from, cutoff, kept_from, first_from, used_from, few_refusal, trim_refusal, trimmed_as}
use Rattle.trim.specs.Inner.{square, squares_from, Limits, model_as}
use Rattle.trim.specs.Inner as trimming
use Rattle.trim.proofs.Answers.{few-passes, first-quiet, then-quiet, used_all, used-kept, refused-answer, first-refused, not_finite, last-answer}
use Rattle.trim.proofs.LastFit.{some-least}
use Rattle.trim.proofs.NoSign.{squares-bare, squares-plain}
use Rattle.trim.proofs.Roots.{finite-roots, roots-of-squares}
use Rattle.word_trim.specs.Inner.{at_most, refused_trim, trim_of, Asked, Measured, Trims}
use Rattle.word_trim.proofs.Kept.{chosen-kept, chosen-all}

-- ---- what rows 1, 4 and 15 let pass

module _ (gm_type n : ℕ) (squares : List Float) (kept : List ℕ) (long : n ≤ length squares) (room : n ≤ length kept) where
  asked : fit_refusal gm_type n ≡ 0 → few_refusal gm_type n ≡ 0 → Asked gm_type n squares kept
  asked e f =
      record { few = fit-few gm_type n e; typed = (or-else-quiet (list_refusal n) (type_refusal gm_type) e).1; enough = few-passes gm_type n f; long = long; room = room }

  pub list-asked : trimming.list_refusal gm_type n ≡ 0 → Asked gm_type n squares kept
  list-asked e = let q = or-else-quiet (fit_refusal gm_type n) (few_refusal gm_type n) e in asked q.0 q.1

  pub model-asked : (flag : ℕ) → trimming.model_refusal gm_type flag n ≡ 0 → Asked gm_type n squares kept
  model-asked flag e = asked (first-quiet gm_type flag n e).0 (then-quiet gm_type flag n e).1

pub list-few : (gm_type n : ℕ) → trimming.list_refusal gm_type n ≡ 0 → n ≤ most_samples
list-few gm_type n e = fit-few gm_type n (or-else-quiet (fit_refusal gm_type n) (few_refusal gm_type n) e).0

-- such a list is fitted
fit-made : (gm_type : ℕ) (ws : List ℕ) → length ws ≤ most_samples → type_refusal gm_type ≡ 0 → fitted gm_type ws ≡ fit_from sample_of gm_type ws
fit-made gm_type ws h t =
    let quiet : fit_refusal gm_type (length ws) ≡ 0 = rw (le-ltb 4096 (length ws) h) t in
    answered-accepted Refused (fit_refusal gm_type (length ws)) (fit_of gm_type ws) quiet

-- ---- the first fit

module _ (gm_type : ℕ) (words : List ℕ) (old : List Float) (kept : List ℕ) (q : Asked gm_type (length words) old kept) (f : Fitted) (e : f ≡ fitted gm_type words) where
  first-is : f ≡ first_from sample_of gm_type words
  first-is = e ∙ fit-made gm_type words q.few q.typed

  pub refused-first : (refusal_of f ≡ 0 → ⊥) → Trims gm_type words kept (refused_trim (refusal_of f))
  refused-first h =
      let number : trim_refusal sample_of gm_type words ≡ refusal_of f = first-refused sample_of gm_type words f first-is h in
      record { answers = refused-answer sample_of gm_type words (refusal_of f) h number; room = q.room; within = λ z. absurd (h (sym number ∙ z)) }

  pub measured : refusal_of f ≡ 0 → (after : List Float) → after ≡ onto (squares_from sample_of f words) old → Measured gm_type f words after kept
  measured h after s =
      record {
        old = old;
        asked = q;
        is = first-is;
        fitted = sym (ap refusal_of first-is) ∙ h;
        squared = s ∙ ap (λ (g : Fitted). onto (squares_from sample_of g words) old) first-is;
      }

-- ---- the second

pub front-count : {l out : List ℕ} {n : ℕ} → Front l out n → n ≡ length (take n out)
front-count there = there.counted ∙ sym (ap (λ (k : List ℕ). length k) there.front)

module _ (gm_type : ℕ) (first : Fitted) (words : List ℕ) (squares : List Float) (kept : List ℕ) (m : Measured gm_type first words squares kept) where
  abbrev before : Fitted
  before = first_from sample_of gm_type words

  abbrev distances : List Float
  distances = squares_from sample_of before words

  abbrev residuals : List Float
  residuals = residuals_from sample_of before words

  abbrev used : List ℕ
  used = used_from sample_of gm_type words

  length-distances : length distances ≡ length words
  length-distances = length-map words (λ (w : ℕ). square before (sample_of w))

  pub squares-long : length words ≤ length squares
  squares-long =
      let e : length squares ≡ length distances + length (drop (length distances) m.old) =
      ap (λ (l : List Float). length l) m.squared ∙ length-append distances (drop (length distances) m.old) in
      omega (arith, e, length-distances)

  pub kept-long : length words ≤ length kept
  kept-long = m.asked.room

  abbrev chosen : Float → List ℕ
  chosen limit = chosen_by (at_most limit) words squares

  pub kept-few : (limit : Float) (out : List ℕ) (n : ℕ) → Front (chosen limit) out n → n ≤ most_samples
  kept-few limit out n there = omega (arith, there.counted, chosen-few (at_most limit) words squares, m.asked.few)

  front : take (length words) squares ≡ distances
  front =
      ap (λ (l : List Float). take (length words) l) m.squared
      ∙ take_at distances (drop (length distances) m.old) (length words) length-distances

  finite-is : (b : Bool) → all_finite (take (length words) squares) ≡ b → all_finite residuals ≡ b
  finite-is b e =
      ap (λ (l : List Float). all_finite l) (sym (roots-of-squares sample_of before words))
      ∙ finite-roots distances (squares-bare sample_of before words)
      ∙ ap (λ (l : List Float). all_finite l) (sym front)
      ∙ e

  pub infinite-trims : all_finite (take (length words) squares) ≡ false → Trims gm_type words kept (refused_trim 16)
  infinite-trims e =
      let number : trim_refusal sample_of gm_type words ≡ 16 = not_finite sample_of gm_type words m.fitted (finite-is false e) in
      let no : (◌≡◌ {A = ℕ} 16 0 → ⊥) = λ z. absurd (omega arith) in
      record { answers = refused-answer sample_of gm_type words 16 no number; room = m.asked.room; within = λ z. absurd (no (sym number ∙ z)) }

  module _ (finite : all_finite (take (length words) squares) ≡ true) where
    each-measured : all_finite distances ≡ true
    each-measured = ap (λ (l : List Float). all_finite l) (sym front) ∙ finite

    pub squares-findable : Findable (take (length words) squares)
    squares-findable =
        let some : 0 < length distances = omega (arith, some-least gm_type, m.asked.enough, length-distances) in
        subst (λ (l : List Float). Findable l) (sym front) (record { some = some; plain = squares-plain sample_of before words each-measured })

    made : (out : List ℕ) (f : Fitted) (n : ℕ) → length words ≤ length out → f ≡ fit_from sample_of gm_type used → Front used out n → Trims gm_type words out (trim_of f n)
    made out f n room is there =
        let answer = last-answer sample_of gm_type words m.fitted (finite-is true finite) f n is there.counted in
        let whole : Trimmed = trimmed_as (fit_from sample_of gm_type used) (length used) in
        record {
          answers = answer;
          room = room;
          within =
              λ z. subst (λ (k : ℕ). Front used out k)
              (there.counted ∙ sym (ap (λ (t : Trimmed). t.used) (answer ∙ answered-accepted refused_trim (trim_refusal sample_of gm_type words) whole z))) there;
        }

    chosen_is : (limit : Float) → chosen limit ≡ chosen_by (at_most limit) words (onto distances m.old)
    chosen_is limit = ap (λ (l : List Float). chosen_by (at_most limit) words l) m.squared

    module _ (limit : Float) (e : Limits (cutoff (map root (take (length words) squares))) limit) (out : List ℕ) (n : ℕ) (there : Front (chosen limit) out n) where
      is-kept : chosen limit ≡ kept_from sample_of before words
      is-kept =
          chosen_is limit
          ∙ chosen-kept before words (drop (length distances) m.old) each-measured limit
          (subst (λ (l : List Float). Limits (cutoff l) limit) (ap (λ (l : List Float). map root l) front ∙ roots-of-squares sample_of before words) e)

      kept-count : n ≡ length (kept_from sample_of before words)
      kept-count = there.counted ∙ ap (λ (l : List ℕ). length l) is-kept

      -- too few are kept: the first fit is the last, of all words
      pub stood-trims : n < least_of gm_type → (top : Float) → top ≡ inf false → (after : List ℕ) (all : ℕ) → length words ≤ length after → Front (chosen top) after all
          → Trims gm_type words after (trim_of first all)
      stood-trims h top i after all room whole =
          let every : chosen top ≡ words = chosen_is top ∙ chosen-all before words (drop (length distances) m.old) each-measured top i in
          let those : used ≡ words = used_all sample_of gm_type words (omega (arith, h, kept-count)) in
          made after first all room (m.is ∙ ap (λ (l : List ℕ). fit_from sample_of gm_type l) (sym those))
          (subst (λ (l : List ℕ). Front l after all) (every ∙ sym those) whole)

      pub fitted-trims : least_of gm_type ≤ n → length words ≤ length out → (f : Fitted) → f ≡ fitted gm_type (take n out) → Trims gm_type words out (trim_of f n)
      fitted-trims h room f i =
          let those : chosen limit ≡ used = is-kept ∙ sym (used-kept sample_of gm_type words (omega (arith, h, kept-count))) in
          let few : length (take n out) ≤ most_samples = omega (arith, ap (λ (l : List ℕ). length l) there.front, there.counted, kept-few limit out n there) in
          made out f n room
          (i ∙ fit-made gm_type (take n out) few m.asked.typed ∙ ap (λ (l : List ℕ). fit_from sample_of gm_type l) (there.front ∙ those))
          (subst (λ (l : List ℕ). Front l out n) those there)

-- ---- on the grid

-- the words in front are those of the last fit
pub front-model : (t : Trimmed) (flag : ℕ) {l out : List ℕ} {r : TrimmedModel} → Front l out t.used
    → r ≡ model_as (length (take t.used out)) (quantized_model t.fitted flag (take t.used out)) → r ≡ model_as t.used (quantized_model t.fitted flag l)
front-model t flag {l} {out} there e =
    e
    ∙ ap (λ (k : ℕ). model_as k (quantized_model t.fitted flag (take t.used out))) (sym (front-count there))
    ∙ ap (λ (ws : List ℕ). model_as t.used (quantized_model t.fitted flag ws)) there.front
