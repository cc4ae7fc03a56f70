-- Handed the words of a job's search, a job from its words on meets the job's rows: where planes and half planes are as the search asks, the first that holds is the same.
-- Assumes nothing.
use Prim.Native.Nat.{ℕ, zero, suc}
use mathlib.Core.Bool.{false, not}
use mathlib.Core.List.{List, [], ◌∷◌}
use mathlib.Core.Path.{◌≡◌, refl, sym, ap, ◌∙◌}
use borrow.Author.Tests.{le-ltb, eq-eqb}
use lib.Dec.{eqb}
use lib.ListN.{length}
use Rattle.laws.specs.Refusal.{row, judge, or_else}
use Rattle.laws.proofs.Refusal.{neither, length-is, judge-groups}
use Rattle.sample.specs.Word.{most_samples}
use Rattle.search.specs.Search.{sample_count}
use Rattle.search.specs.Refusal as search
use Rattle.search.proofs.Rows as search-rows
use Rattle.search.proofs.Words.{sample_words-length, sample_count-le-4096, sample_words-storable, sample_words-bare}
use Rattle.frame_number.specs.Shutter.{closed_refusal}
use Rattle.job_task.specs.Task.{Task, Lent, sheet_of, sizes_of}
use Rattle.job_task.specs.Rows as job
use Rattle.words_task.specs.Rows.{not_storable, list_rows, handed_rows, word_rows, room_rows, refusal_of_words, early}

or-else-assoc : (a b c : ℕ) → or_else a (or_else b c) ≡ or_else (or_else a b) c
or-else-assoc zero b c = refl
or-else-assoc (suc a) b c = refl

-- rows 1, 2 and 3 of the search don't hold
pub record Searchable (j : Task) (l : Lent) : Type 0 where
  pub large : search.too_large j.width j.height ≡ false
  pub planes : search.wrong_length j.width j.height (length j.input) (length j.reference) (length j.classes) ≡ false
  pub room : search.too_short j.width j.height (length l.input_half) (length l.ref_half) (length l.words) ≡ false

module _ (j : Task) (l : Lent) (s : Searchable j l) where
  abbrev words : List ℕ
  words = (sheet_of j).words

  counted : length words ≡ sample_count j.width j.height
  counted = sample_words-length j.input j.reference j.width j.height

  classed : length j.classes ≡ length words
  classed =
      let planes = neither (not (eqb (length j.reference) _)) _ (neither (not (eqb (length j.input) _)) _ s.planes).1 in
      length-is (length j.classes) (sample_count j.width j.height) planes.1 ∙ sym counted

  storable-words : not_storable words ≡ false
  storable-words =
      let small = search-rows.small j.width j.height s.large in
      rw (
        sample_words-storable j.input j.reference j.width j.height small.narrow small.low,
        sample_words-bare j.input j.reference j.width j.height small.narrow small.low,
      )

  lists-same : judge (list_rows (length words) (length j.classes) (length j.types) (length j.models) (length j.prior))
      ≡ judge (job.size_rows (sizes_of j l) (length j.classes) (length j.types) (length j.models) (length j.prior))
  lists-same =
      let small = search-rows.small j.width j.height s.large in
      let few = le-ltb most_samples (length words) (rw counted (sample_count-le-4096 j.width j.height small.narrow small.low)) in
      rw (few, eq-eqb (length j.classes) (length words) classed, s.large, s.planes) refl

  models-same : or_else (judge (handed_rows j.settings.flag j.types j.models j.prior)) (judge (word_rows j.form words j.classes))
      ≡ judge (job.model_rows j.settings j.form j.classes j.types j.models j.prior)
  models-same =
      rw storable-words
      (sym (judge-groups (handed_rows j.settings.flag j.types j.models j.prior) (row 13 (job.not_held j.form j.classes) ∷ []) tt))

  room-same : judge (room_rows j.settings j.form (length words) j.classes (length l.blocks) (length l.header))
      ≡ judge (job.room_rows (sizes_of j l) j.settings j.form j.classes)
  room-same = rw (counted, s.room) refl

  pub early-same : early (sheet_of j) (length l.blocks) (length l.header) ≡ job.early j l
  unfolding refusal_of_words job.refusal_before
  early-same =
      let codes = judge (job.code_rows j.settings j.form j.classes j.types) in
      let handed = judge (handed_rows j.settings.flag j.types j.models j.prior) in
      let stored = judge (word_rows j.form words j.classes) in
      let room = judge (room_rows j.settings j.form (length words) j.classes (length l.blocks) (length l.header)) in
      let shutter = closed_refusal j.settings.frame in
      let sizes = judge (job.size_rows (sizes_of j l) (length j.classes) (length j.types) (length j.models) (length j.prior)) in
      let models = judge (job.model_rows j.settings j.form j.classes j.types j.models j.prior) in
      ap (λ (n : ℕ). or_else n (or_else codes (or_else handed (or_else stored (or_else room shutter))))) lists-same
      ∙ (ap (λ (n : ℕ). or_else sizes (or_else codes n)) (or-else-assoc handed stored (or_else room shutter))
      ∙ (ap (λ (n : ℕ). or_else sizes (or_else codes (or_else n (or_else room shutter)))) models-same
      ∙ ap (λ (n : ℕ). or_else sizes (or_else codes (or_else models (or_else n shutter)))) room-same))
