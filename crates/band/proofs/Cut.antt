-- Bands that follow on are one band; those of any cut of the block rows are the search, words and rows; and a band alone is that part of the search.
-- Assumes nothing.
use Prim.Native.Nat.{ℕ, zero, suc, ◌+◌, ◌*◌, ◌-◌, ◌/◌, ◌≤◌, ◌<◌}
use mathlib.Core.List.{List, [], ◌∷◌, ◌++◌, append_assoc, append-nil}
use mathlib.Core.Path.{◌≡◌, refl, sym, ap, ◌∙◌}
use native.Mathlib.Nat.{le_refl}
use native.Mathlib.Omega.{arith}
use lib.ListN.{length, take, drop}
use lib.Seq.{take_at, drop_at}
use Rattle.laws.specs.Loops.{sum}
use Rattle.laws.specs.Parts.{listing, joined}
use Rattle.laws.proofs.Buffer.{onto-front}
use Rattle.laws.proofs.Filling.{length-listing, listing-same}
use Rattle.laws.proofs.Loops.{sum_same}
use Rattle.plane.specs.Plane.{half_plane}
use Rattle.plane.proofs.Halves.{length-half_plane}
use Rattle.search.specs.Search.{Scene, halved, sample_word, sample_words, sample_rows, rows_added}
use Rattle.search.specs.Band.{band_count, band_at, band_words, band_rows}
use Rattle.search.proofs.Bands.{words-whole, rows_whole}
use Rattle.band.specs.Call.{half_count, half_refusal, half_left, refusal, words_left}

-- ---- lists and sums in two parts

listing-two : {A : Type 0} (f : ℕ → A) (m n : ℕ) → listing f m ++ listing (λ k. f (m + k)) n ≡ listing f (m + n)
listing-two f m zero = append-nil (listing f m) ∙ ap (listing f) (let e : m ≡ m + 0 = omega arith in e)
listing-two f m (suc n) =
    sym (append_assoc (listing f m) (listing (λ k. f (m + k)) n) (f (m + n) ∷ []))
    ∙ (ap (λ l. l ++ (f (m + n) ∷ [])) (listing-two f m n) ∙ ap (listing f) (let e : suc (m + n) ≡ m + suc n = omega arith in e))

sum-two : (f : ℕ → ℕ) (m n : ℕ) → sum f m + sum (λ k. f (m + k)) n ≡ sum f (m + n)
sum-two f m zero = (let e : sum f m + 0 ≡ sum f m = omega arith in e) ∙ ap (sum f) (let e : m ≡ m + 0 = omega arith in e)
sum-two f m (suc n) =
    (let e : sum f m + (sum (λ k. f (m + k)) n + f (m + n)) ≡ sum f m + sum (λ k. f (m + k)) n + f (m + n) = omega arith in e)
    ∙ (ap (λ (t : ℕ). t + f (m + n)) (sum-two f m n) ∙ ap (sum f) (let e : suc (m + n) ≡ m + suc n = omega arith in e))

-- ---- block rows a to b and b to c

up_to : (a b c : ℕ) → a ≤ b → a * c + (b - a) * c ≡ b * c
up_to a b c l = (let e : a * c + (b - a) * c ≡ (a + (b - a)) * c = omega arith in e) ∙ ap (λ (n : ℕ). n * c) (let e : a + (b - a) ≡ b = omega arith in e)

counts-follow : (w a b c : ℕ) → a ≤ b → b ≤ c → band_count w a b + band_count w b c ≡ band_count w a c
counts-follow w a b c l m =
    (let e : (b - a) * (w / 16) + (c - b) * (w / 16) ≡ (b - a + (c - b)) * (w / 16) = omega arith in e)
    ∙ ap (λ (n : ℕ). n * (w / 16)) (let e : b - a + (c - b) ≡ c - a = omega arith in e)

places-follow : (w a b k : ℕ) → a ≤ b → band_at w b k ≡ band_at w a (band_count w a b + k)
places-follow w a b k l = let e = up_to a b (w / 16) l in omega arith

module _ (s : Scene) where
  pub words-follow : (a b c : ℕ) → a ≤ b → b ≤ c → band_words s a b ++ band_words s b c ≡ band_words s a c
  unfolding band_words
  words-follow a b c l m =
      let w = s.width in
      let f : ℕ → ℕ = λ k. sample_word s (band_at w a k) in
      ap (λ (t : List ℕ). listing f (band_count w a b) ++ t)
      (listing-same (λ k. sample_word s (band_at w b k)) (λ k. f (band_count w a b + k)) (band_count w b c) (λ k _. ap (sample_word s) (places-follow w a b k l)))
      ∙ (listing-two f (band_count w a b) (band_count w b c) ∙ ap (listing f) (counts-follow w a b c l m))

  pub rows-follow : (a b c : ℕ) → a ≤ b → b ≤ c → band_rows s a b + band_rows s b c ≡ band_rows s a c
  unfolding band_rows
  rows-follow a b c l m =
      let w = s.width in
      let f : ℕ → ℕ = λ k. sample_rows s (band_at w a k) in
      ap (λ (t : ℕ). sum f (band_count w a b) + t)
      (sum_same (λ k. sample_rows s (band_at w b k)) (λ k. f (band_count w a b + k)) (band_count w b c) (λ k _. ap (sample_rows s) (places-follow w a b k l)))
      ∙ (sum-two f (band_count w a b) (band_count w b c) ∙ ap (sum f) (counts-follow w a b c l m))

  none : (a : ℕ) → band_count s.width a a ≡ 0
  none a = rw (let e : a - a ≡ 0 = omega arith in e) (omega arith)

  words-none : (a : ℕ) → [] ≡ band_words s a a
  unfolding band_words
  words-none a = rw (none a) refl

  rows_none : (a : ℕ) → 0 ≡ band_rows s a a
  unfolding band_rows
  rows_none a = rw (none a) refl

  pub length-band_words : (a b : ℕ) → length (band_words s a b) ≡ band_count s.width a b
  unfolding band_words
  length-band_words a b = length-listing (λ k. sample_word s (band_at s.width a k)) (band_count s.width a b)

  -- ---- n bands, the i-th from cut i on
  module _ (cut : ℕ → ℕ) where
    rising : (n : ℕ) → ((i : ℕ) → i < n → cut i ≤ cut (suc i)) → cut 0 ≤ cut n
    rising zero h = le_refl (cut 0)
    rising (suc n) h =
        let a = rising n (λ i l. h i (omega arith)) in
        let b = h n (omega arith) in
        omega arith

    pub words-of-bands : (n : ℕ) → ((i : ℕ) → i < n → cut i ≤ cut (suc i)) → joined (λ i. band_words s (cut i) (cut (suc i))) n ≡ band_words s (cut 0) (cut n)
    words-of-bands zero h = words-none (cut 0)
    words-of-bands (suc n) h =
        let before : (i : ℕ) → i < n → cut i ≤ cut (suc i) = λ i l. h i (omega arith) in
        ap (λ (t : List ℕ). t ++ band_words s (cut n) (cut (suc n))) (words-of-bands n before)
        ∙ words-follow (cut 0) (cut n) (cut (suc n)) (rising n before) (h n (omega arith))

    pub rows-of-bands : (n : ℕ) → ((i : ℕ) → i < n → cut i ≤ cut (suc i)) → sum (λ i. band_rows s (cut i) (cut (suc i))) n ≡ band_rows s (cut 0) (cut n)
    rows-of-bands zero h = rows_none (cut 0)
    rows-of-bands (suc n) h =
        let before : (i : ℕ) → i < n → cut i ≤ cut (suc i) = λ i l. h i (omega arith) in
        ap (λ (t : ℕ). t + band_rows s (cut n) (cut (suc n))) (rows-of-bands n before)
        ∙ rows-follow (cut 0) (cut n) (cut (suc n)) (rising n before) (h n (omega arith))

module _ (input ref : List ℕ) (w h : ℕ) where
  -- ---- with the half planes that the search defines: any cut of all block rows
  module _ (cut : ℕ → ℕ) (n : ℕ) (begins : cut 0 ≡ 0) (ends : cut n ≡ h / 16) (rises : (i : ℕ) → i < n → cut i ≤ cut (suc i)) where
    pub words-of-search : joined (λ i. band_words (halved input ref w h) (cut i) (cut (suc i))) n ≡ sample_words input ref w h
    words-of-search = words-of-bands (halved input ref w h) cut n rises ∙ rw (begins, ends) (words-whole input ref w h)

    pub rows-of-search : sum (λ i. band_rows (halved input ref w h) (cut i) (cut (suc i))) n ≡ rows_added input ref w h
    rows-of-search = rows-of-bands (halved input ref w h) cut n rises ∙ rw (begins, ends) (rows_whole input ref w h)

  -- a band alone
  pub words-part : (first end : ℕ) → first ≤ end → end ≤ h / 16 →
      band_words (halved input ref w h) first end ≡ take (band_count w first end) (drop (first * (w / 16)) (sample_words input ref w h))
  words-part first end l m =
      let s = halved input ref w h in
      let a : List ℕ = band_words s 0 first in
      let b : List ℕ = band_words s first end in
      let c : List ℕ = band_words s end (h / 16) in
      let all : sample_words input ref w h ≡ a ++ (b ++ c) =
      sym (words-whole input ref w h)
      ∙ (sym (words-follow s 0 first (h / 16) (omega arith) (omega arith)) ∙ ap (λ (t : List ℕ). a ++ t) (sym (words-follow s first end (h / 16) l m))) in
      let from : length a ≡ first * (w / 16) = length-band_words s 0 first ∙ ap (λ (k : ℕ). k * (w / 16)) (let e : first - 0 ≡ first = omega arith in e) in
      sym (ap (λ (t : List ℕ). take (band_count w first end) (drop (first * (w / 16)) t)) all
      ∙ (ap (take (band_count w first end)) (drop_at a (b ++ c) (first * (w / 16)) from) ∙ take_at b c (band_count w first end) (length-band_words s first end)))

-- ---- what accepted calls leave at the fronts of their buffers

pub half-plane-left : (plane : List ℕ) (w h : ℕ) (old : List ℕ) → half_refusal w h (length plane) (length old) ≡ 0 →
    take (half_count w h) (half_left plane w h old) ≡ half_plane plane w h
half-plane-left plane w h old e = rw (e, ← length-half_plane plane w h) (onto-front (half_plane plane w h) old)

pub band-left : (s : Scene) (first end : ℕ) (old : List ℕ) → refusal s first end (length old) ≡ 0 →
    take (band_count s.width first end) (words_left s first end old) ≡ band_words s first end
band-left s first end old e = rw (e, ← length-band_words s first end) (onto-front (band_words s first end) old)
