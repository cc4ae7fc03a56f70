-- `search_into`: the fronts of both buffers hold the half planes when the band of all block rows is filled.
-- Assumes nothing.
use Prim.Native.Nat.{ℕ}
use mathlib.Core.List.{List}
use mathlib.Core.Path.{◌∙◌, ap}
use native.Mathlib.Omega.{arith}
use Rattle.laws.specs.Buffer.{onto}
use Rattle.search.proofs.Rows.{half-front, half-front-length}
use Rattle.search.proofs.Bands.{all_rows, words-searched, rows-searched}
use Rattle.search.proofs.search_into.Goals as goal

pub slice_bounds-fill_band-end-2 : goal.slice_bounds-fill_band-end-2
slice_bounds-fill_band-end-2 c = let a = c.args in
    half-front-length a.input_y.now a.sides.width a.sides.height a.input_half.now c.downsample.ensures

pub slice_bounds-fill_band-end-4 : goal.slice_bounds-fill_band-end-4
slice_bounds-fill_band-end-4 c = let a = c.args in
    half-front-length a.ref_y.now a.sides.width a.sides.height a.ref_half.now c.downsample-2.ensures

pub fill_band-requires : goal.fill_band-requires
fill_band-requires c = let a = c.args in
    let p = c.requires in record {
      halves = record {
        small = p.small;
        input_pels = p.input_pels;
        ref_pels = p.ref_pels;
        input_half_pels = half-front-length a.input_y.now a.sides.width a.sides.height a.input_half.now c.downsample.ensures;
        ref_half_pels = half-front-length a.ref_y.now a.sides.width a.sides.height a.ref_half.now c.downsample-2.ensures;
      };
      band = record { rising = omega arith; there = omega arith; room = rw (all_rows a.sides.width a.sides.height) p.words_room };
    }

pub returns : goal.returns
returns c = let a = c.args in
    let first = half-front a.input_y.now a.sides.width a.sides.height a.input_half.now c.downsample.ensures in
    let second = half-front a.ref_y.now a.sides.width a.sides.height a.ref_half.now c.downsample-2.ensures in
    let e = c.fill_band.ensures in record { input_half_after = c.downsample.ensures; ref_half_after = c.downsample-2.ensures; words_after = e.words_after ∙ ap (λ (ws : List ℕ). onto ws a.words.now) (words-searched a.input_y.now a.ref_y.now a.sides.width a.sides.height first second); value = e.value ∙ rows-searched a.input_y.now a.ref_y.now a.sides.width a.sides.height first second }
