-- What an accepted call knows: its sides, its lengths, its block rows and its room.
-- Assumes nothing.
use Prim.Native.Nat.{ℕ, ◌≤◌}
use mathlib.Core.Bool.{false}
use mathlib.Core.List.{List}
use mathlib.Core.Path.{◌≡◌, sym}
use lib.ListN.{length}
use borrow.Author.Tests.{ltb-false}
use Rattle.laws.specs.Refusal.{judge}
use Rattle.laws.proofs.Refusal.{neither, quiet, or-else-quiet, length-is}
use Rattle.plane.specs.Inner.{Halvable}
use Rattle.search.specs.Search.{Scene, block_rows}
use Rattle.search.specs.Inner.{Halves, Band}
use Rattle.search.proofs.Rows.{small}
use Rattle.band.specs.Call.{not_there, half_rows, half_refusal, plane_rows, band_rows_of, band_refusal, refusal}

pub there : (h first end : ℕ) → not_there h first end ≡ false → (first ≤ end) × (end ≤ block_rows h)
there h first end e =
    let n = neither _ _ e in
    (ltb-false _ _ n.0, ltb-false _ _ n.1)

pub half-accepted : (plane : List ℕ) (w h : ℕ) (out : List ℕ) → half_refusal w h (length plane) (length out) ≡ 0 → Halvable plane out w h
unfolding half_refusal
half-accepted plane w h out e =
    let q = quiet (half_rows w h (length plane) (length out)) tt e in
    let s = small w h q.0 in
    record { narrow = s.narrow; low = s.low; pels = sym (length-is _ _ q.1.0); room = ltb-false _ _ q.1.1.0 }

pub band-accepted : (s : Scene) (first end : ℕ) (words : List ℕ) → refusal s first end (length words) ≡ 0
    → Halves s × Band s.width s.height first end words
unfolding band_refusal
band-accepted s first end words e =
    let ins = plane_rows s.width s.height (length s.input) (length s.ref) (length s.input_half) (length s.ref_half) in
    let outs = band_rows_of s.width s.height first end (length words) in
    let z = or-else-quiet (judge ins) (judge outs) e in
    let q = quiet ins tt z.0 in
    let o = quiet outs tt z.1 in
    let one = neither _ _ q.1.0 in
    let two = neither _ _ one.1 in
    let three = neither _ _ two.1 in
    let t = there s.height first end o.0 in (
      record {
        small = small s.width s.height q.0;
        input_pels = sym (length-is _ _ one.0);
        ref_pels = sym (length-is _ _ two.0);
        input_half_pels = sym (length-is _ _ three.0);
        ref_half_pels = sym (length-is _ _ three.1);
      },
      record { rising = t.0; there = t.1; room = ltb-false _ _ o.1.0 },
    )
