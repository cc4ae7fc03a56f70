use Prim.Native.Nat.{ℕ, ◌-◌, ◌/◌, ◌<◌}
use mathlib.Core.Path.{◌≡◌, refl, ap, ◌∙◌}
use native.Mathlib.Nat.{div-lt_iff_lt-mul, mod-lt}
use native.Mathlib.Omega.{arith}
use Rattle.laws.specs.Buffer.{onto}
use Rattle.laws.specs.Loops.{sum}
use Rattle.laws.specs.Parts.{listing}
use Rattle.plane.proofs.Listing.{listing-more}
use Rattle.search.specs.Search.{scene, sample_word, sample_rows}
use Rattle.search.specs.Band.{band_count, band_at, band_words, band_rows}
use Rattle.search.specs.declared.blocks.Sampled.{Sampled}
use Rattle.search.proofs.Counted.{rows-so-far, rows_next}
use Rattle.search.proofs.Rows.{count_small, factor-pos}
use Rattle.search.proofs.Bands.{band-inside, band-few, band-before}
use Rattle.search.proofs.blocks.fill_band.Goals as goal

pub overflow_mul-before : goal.overflow_mul-before
overflow_mul-before c = let a = c.args in
    let p = c.requires in
    omega (
      arith,
      band-before a.sides.width a.sides.height a.first a.end p.band.rising p.band.there,
      count_small a.sides.width a.sides.height p.halves.small.narrow p.halves.small.low,
    )

pub overflow_sub-samples : goal.overflow_sub-samples
overflow_sub-samples c = c.requires.band.rising

pub overflow_mul-samples : goal.overflow_mul-samples
overflow_mul-samples c = let a = c.args in
    let p = c.requires in
    omega (
      arith,
      band-few a.sides.width a.sides.height a.first a.end p.band.there,
      count_small a.sides.width a.sides.height p.halves.small.narrow p.halves.small.low,
    )

pub loop-k-init : goal.loop-k-init
loop-k-init c = (refl, refl)

pub overflow_add-at : goal.overflow_add-at
overflow_add-at c = let a = c.args in
    let p = c.requires in
    omega (
      arith,
      band-inside a.sides.width a.sides.height a.first a.end c.loop-k.k p.band.rising p.band.there c.loop-k-test.true,
      count_small a.sides.width a.sides.height p.halves.small.narrow p.halves.small.low,
    )

pub nonzero_div-row : goal.nonzero_div-row
nonzero_div-row c = let a = c.args in
    omega (arith, factor-pos (a.end - a.first) (a.sides.width / 16) c.loop-k.k c.loop-k-test.true)

pub nonzero_rem-column : goal.nonzero_rem-column
nonzero_rem-column c = let a = c.args in
    omega (arith, factor-pos (a.end - a.first) (a.sides.width / 16) c.loop-k.k c.loop-k-test.true)

pub word_at-found-requires : goal.word_at-found-requires
word_at-found-requires c = let a = c.args in
    let p = c.requires in
    let at = band_at a.sides.width a.first c.loop-k.k in
    let some = factor-pos (a.end - a.first) (a.sides.width / 16) c.loop-k.k c.loop-k-test.true in
    let inside = band-inside a.sides.width a.sides.height a.first a.end c.loop-k.k p.band.rising p.band.there c.loop-k-test.true in record { halves = p.halves; inside = record { row = (div-lt_iff_lt-mul some).1 inside; column = mod-lt at some } }

pub bounds-words-k : goal.bounds-words-k
bounds-words-k c = omega (arith, c.requires.band.room)

pub overflow_add-rows : goal.overflow_add-rows
overflow_add-rows c = let a = c.args in
    let p = c.requires in
    let s = scene a.input.now a.reference.now a.sides.width a.sides.height a.input_half.now a.ref_half.now in
    let few = band-few a.sides.width a.sides.height a.first a.end p.band.there in
    let most = count_small a.sides.width a.sides.height p.halves.small.narrow p.halves.small.low in
    let k = c.loop-k.k in
    let l : k < 4096 = omega (arith, c.loop-k-test.true, few, most) in
    let new = ap (λ (f : Sampled). f.rows) c.word_at-found.ensures in
    omega (arith, rows-so-far s (band_at a.sides.width a.first) k l, c.loop-k.invariant.1, new)

pub loop-k-preserved : goal.loop-k-preserved
unfolding sample_word
loop-k-preserved c = let a = c.args in
    let s = scene a.input.now a.reference.now a.sides.width a.sides.height a.input_half.now a.ref_half.now in
    let k = c.loop-k.k in
    let e = c.word_at-found.ensures in (
      listing-more (λ i. sample_word s (band_at a.sides.width a.first i)) a.words.now k (omega (arith, c.requires.band.room)) c.loop-k.invariant.0 (ap (λ (f : Sampled). f.word) e),
      rows_next s (band_at a.sides.width a.first) k c.loop-k.invariant.1 (ap (λ (f : Sampled). f.rows) e),
    )

pub returns : goal.returns
unfolding band_words band_rows
returns c = let a = c.args in
    let s = scene a.input.now a.reference.now a.sides.width a.sides.height a.input_half.now a.ref_half.now in
    let e : c.loop-k.k ≡ band_count a.sides.width a.first a.end = omega arith in record { words_after = c.loop-k.invariant.0 ∙ ap (λ (n : ℕ). onto (listing (λ i. sample_word s (band_at a.sides.width a.first i)) n) a.words.now) e; value = c.loop-k.invariant.1 ∙ ap (sum (λ i. sample_rows s (band_at a.sides.width a.first i))) e }
