-- The band of all block rows is the search, and a band's samples are among all samples.
-- Assumes nothing.
use Prim.Native.Nat.{ℕ, ◌+◌, ◌*◌, ◌-◌, ◌/◌, ◌≤◌, ◌<◌}
use mathlib.Core.List.{List}
use mathlib.Core.Path.{◌≡◌, refl, ap}
use native.Mathlib.Nat.{mul-le-mul_right}
use native.Mathlib.Omega.{arith}
use Rattle.plane.specs.Plane.{half_plane}
use Rattle.laws.proofs.Filling.{listing-same}
use Rattle.laws.proofs.Loops.{sum_same}
use Rattle.search.specs.Search.{scene, halved, sample_word, sample_words, sample_rows, sample_count, rows_added}
use Rattle.search.specs.Band.{band_count, band_at, band_words, band_rows}

from-0 : (c k : ℕ) → 0 * c + k ≡ k
from-0 c k = omega arith

pub all_rows : (w h : ℕ) → band_count w 0 (h / 16) ≡ sample_count w h
all_rows w h = rw (let e : h / 16 - 0 ≡ h / 16 = omega arith in e) refl

module _ (input ref : List ℕ) (w h : ℕ) where
  pub words-whole : band_words (halved input ref w h) 0 (h / 16) ≡ sample_words input ref w h
  unfolding band_words sample_words
  words-whole =
      let s = halved input ref w h in
      rw (all_rows w h) (listing-same (λ k. sample_word s (band_at w 0 k)) (sample_word s) (sample_count w h) (λ k l. ap (sample_word s) (from-0 (w / 16) k)))

  pub rows_whole : band_rows (halved input ref w h) 0 (h / 16) ≡ rows_added input ref w h
  unfolding band_rows rows_added
  rows_whole =
      let s = halved input ref w h in
      rw (all_rows w h) (sum_same (λ k. sample_rows s (band_at w 0 k)) (sample_rows s) (sample_count w h) (λ k l. ap (sample_rows s) (from-0 (w / 16) k)))

  -- whatever holds the half planes
  pub words-searched : {input_half ref_half : List ℕ} → input_half ≡ half_plane input w h → ref_half ≡ half_plane ref w h →
      band_words (scene input ref w h input_half ref_half) 0 (h / 16) ≡ sample_words input ref w h
  words-searched p q = rw (p, q) words-whole

  pub rows-searched : {input_half ref_half : List ℕ} → input_half ≡ half_plane input w h → ref_half ≡ half_plane ref w h →
      band_rows (scene input ref w h input_half ref_half) 0 (h / 16) ≡ rows_added input ref w h
  rows-searched p q = rw (p, q) rows_whole

-- a band's k-th sample is one of all
pub band-inside : (w h first end k : ℕ) → first ≤ end → end ≤ h / 16 → k < band_count w first end → band_at w first k < h / 16 * (w / 16)
band-inside w h first end k l m n =
    let a : first * (w / 16) + (end - first) * (w / 16) ≡ (first + (end - first)) * (w / 16) = omega arith in
    let b : (first + (end - first)) * (w / 16) ≤ h / 16 * (w / 16) = mul-le-mul_right (w / 16) (let q : first + (end - first) ≤ h / 16 = omega arith in q) in
    omega arith

pub band-few : (w h first end : ℕ) → end ≤ h / 16 → band_count w first end ≤ h / 16 * (w / 16)
band-few w h first end m = mul-le-mul_right (w / 16) (let q : end - first ≤ h / 16 = omega arith in q)

pub band-before : (w h first end : ℕ) → first ≤ end → end ≤ h / 16 → first * (w / 16) ≤ h / 16 * (w / 16)
band-before w h first end l m = mul-le-mul_right (w / 16) (let q : first ≤ h / 16 = omega arith in q)
