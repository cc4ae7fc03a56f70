-- The words of a search: how many, what each holds, and that a frame may store them.
-- Assumes nothing.
use Prim.Native.Nat.{ℕ, suc, ◌+◌, ◌*◌, ◌/◌, ◌%◌, ◌^◌, ◌≤◌, ◌<◌, suc-le-suc}
use mathlib.Core.Bool.{Bool, true, false}
use mathlib.Core.List.{List, [], ◌∷◌}
use mathlib.Core.Path.{◌≡◌, refl, sym, ap, ◌∙◌}
use native.Mathlib.Nat.{div-lt_iff_lt-mul, mod-lt, div-add-mod'}
use native.Mathlib.Omega.{arith}
use lib.Arith.{digits_div, digits_mod}
use lib.ListN.{length, get_or, get_or-eq_default}
use lib.Dec.{ltb}
use borrow.Author.Tests.{ltb-true, ltb-false}
use Rattle.laws.proofs.Filling.{length-listing}
use Rattle.sample.specs.Word.{in_range, place_of, class_of}
use Rattle.sample.specs.Inner.{Held}
use Rattle.sample.specs.Storable.{storable}
use Rattle.sample.proofs.Word as word
use Rattle.sample.proofs.Storable.{in-range-of, storable-by-index}
use Rattle.class.specs.Class.{all_bare}
use Rattle.plane.specs.Plane.{largest_side}
use Rattle.plane.proofs.Listing.{get_d-listing}
use Rattle.search.specs.Search.{halved, motion, stored, word_at, sample_word, sample_words, sample_count, block_columns}
use Rattle.search.proofs.Rows.{factor-pos, count_small}
use Rattle.search.proofs.Range.{stored-motion-le-446}

-- the next block comes later, row first
next_place : (k m : ℕ) → 0 < m → m ≤ 64 → k / m * 64 + k % m < (k + 1) / m * 64 + (k + 1) % m
next_place k m p q = by (ltb (k % m + 1) m) refl
  where
    at : k ≡ k / m * m + k % m
    at = sym (div-add-mod' k m)

    below : k % m < m
    below = mod-lt k p

    by : (t : Bool) → ltb (k % m + 1) m ≡ t → k / m * 64 + k % m < (k + 1) / m * 64 + (k + 1) % m
    by true e =
        let l = ltb-true (k % m + 1) m e in
        let n : k + 1 ≡ k / m * m + (k % m + 1) = omega (arith, at) in
        let d : (k + 1) / m ≡ k / m = ap (λ (i : ℕ). i / m) n ∙ digits_div (k / m) l in
        let r : (k + 1) % m ≡ k % m + 1 = ap (λ (i : ℕ). i % m) n ∙ digits_mod (k / m) l in
        omega (arith, d, r)
    by false e =
        let l = ltb-false (k % m + 1) m e in
        let n : k + 1 ≡ (k / m + 1) * m + 0 = omega (arith, at, below) in
        let d : (k + 1) / m ≡ k / m + 1 = ap (λ (i : ℕ). i / m) n ∙ digits_div (k / m + 1) p in
        let r : (k + 1) % m ≡ 0 = ap (λ (i : ℕ). i % m) n ∙ digits_mod (k / m + 1) p in
        omega (arith, d, r, below)

pub sample_words-length : (input ref : List ℕ) (w h : ℕ) → length (sample_words input ref w h) ≡ sample_count w h
unfolding sample_words
sample_words-length input ref w h = length-listing (sample_word (halved input ref w h)) (sample_count w h)

pub sample_count-le-4096 : (w h : ℕ) → w ≤ largest_side → h ≤ largest_side → sample_count w h ≤ 4096
sample_count-le-4096 w h p q = count_small w h p q

-- a side under 16: no samples (worked values of docs/RULES.md)
pub sample_count-narrow : (w h : ℕ) → w < 16 → sample_count w h ≡ 0
sample_count-narrow w h l = rw (let e : w / 16 ≡ 0 = omega arith in e) (omega arith)

pub sample_count-low : (w h : ℕ) → h < 16 → sample_count w h ≡ 0
sample_count-low w h l = rw (let e : h / 16 ≡ 0 = omega arith in e) (omega arith)

bare-by-index : (ws : List ℕ) → ((k : ℕ) → k < length ws → class_of (get_or ws k 0) ≡ 0) → all_bare ws ≡ true
bare-by-index [] h = refl
bare-by-index (w ∷ ws) h = rw (h 0 (omega arith)) (bare-by-index ws (λ k l. h (suc k) (suc-le-suc l)))

-- the k-th word is the k-th block's
pub sample_words-at : (input ref : List ℕ) (w h : ℕ) (k : ℕ) → k < sample_count w h →
    get_or (sample_words input ref w h) k 0 ≡ word_at (halved input ref w h) (k / block_columns w) (k % block_columns w)
unfolding sample_words sample_word
sample_words-at input ref w h k l = get_d-listing (sample_word (halved input ref w h)) (sample_count w h) k 0 l

module _ (input ref : List ℕ) (w h : ℕ) (narrow : w ≤ largest_side) (low : h ≤ largest_side) where
  pub word_held : (k : ℕ) → k < sample_count w h →
      Held (k / block_columns w) (k % block_columns w)
      (stored (motion input ref w h (k / block_columns w) (k % block_columns w)).dy)
      (stored (motion input ref w h (k / block_columns w) (k % block_columns w)).dx)
      0
  word_held k l =
      let p = factor-pos (h / 16) (w / 16) k l in
      let r : k / (w / 16) < h / 16 = (div-lt_iff_lt-mul p).1 l in
      let c : k % (w / 16) < w / 16 = mod-lt k p in
      let s = stored-motion-le-446 (halved input ref w h) (k / block_columns w) (k % block_columns w) in
      let v = s.0 in
      let u = s.1 in
      record { row = omega arith; col = omega arith; motion-v = omega arith; motion-u = omega arith; class = omega arith }

  place_at : (k : ℕ) → k < sample_count w h → place_of (get_or (sample_words input ref w h) k 0) ≡ k / block_columns w * 64 + k % block_columns w
  place_at k l = ap place_of (sample_words-at input ref w h k l) ∙ word.place-of-word (word_held k l)

  in-range-at : (k : ℕ) → k < sample_count w h → in_range (get_or (sample_words input ref w h) k 0) ≡ true
  in-range-at k l =
      let s = stored-motion-le-446 (halved input ref w h) (k / block_columns w) (k % block_columns w) in
      ap in_range (sample_words-at input ref w h k l)
      ∙ in-range-of (word_at (halved input ref w h) (k / block_columns w) (k % block_columns w))
      (rw (word.v-of-word (word_held k l)) s.0)
      (rw (word.u-of-word (word_held k l)) s.1)

  -- motions in range, and (R, C) rising strictly: storing never refuses 12
  pub sample_words-storable : storable (sample_words input ref w h) ≡ true
  sample_words-storable =
      storable-by-index (sample_words input ref w h)
      (λ k l. in-range-at k (rw sample_words-length at l))
      (λ k l.
      let m : k + 1 < sample_count w h = rw sample_words-length at l in
      let n : k < sample_count w h = omega arith in
      rw (place_at k n, place_at (k + 1) m)
      (next_place k (w / 16) (factor-pos (h / 16) (w / 16) k n) (let b : w / 16 ≤ 64 = omega arith in b)))

  -- class bits zero: nor for a class
  pub sample_words-bare : all_bare (sample_words input ref w h) ≡ true
  sample_words-bare =
      bare-by-index (sample_words input ref w h)
      (λ k l.
      let n : k < sample_count w h = rw sample_words-length at l in
      ap class_of (sample_words-at input ref w h k n) ∙ word.class-of-word (word_held k n))

  -- and every word, also one that isn't there, is one of 32 bits
  pub sample_words-fit : (k : ℕ) → get_or (sample_words input ref w h) k 0 < 2 ^ 32
  sample_words-fit k = by (ltb k (sample_count w h)) refl
    where
      by : (t : Bool) → ltb k (sample_count w h) ≡ t → get_or (sample_words input ref w h) k 0 < 2 ^ 32
      by true e =
          let l = ltb-true k (sample_count w h) e in
          rw (sample_words-at input ref w h k l) (word.word_fits (word_held k l))
      by false e =
          let l : length (sample_words input ref w h) ≤ k = rw (sample_words-length input ref w h) (ltb-false k (sample_count w h) e) in
          rw (get_or-eq_default (sample_words input ref w h) 0 l) (omega arith)
