use Prim.Native.Nat.{ℕ, ◌/◌}
use mathlib.Core.Path.{◌≡◌, ap, ◌∙◌}
use native.Mathlib.Omega.{arith}
use lib.ListN.{length}
use Rattle.laws.specs.Buffer.{onto}
use Rattle.plane.specs.Plane.{row_by_row, half_pel, half_plane}
use Rattle.plane.proofs.Listing.{row_by_row-more}
use Rattle.plane.proofs.Halves.{rows_inside, room-inside}
use Rattle.plane.proofs.downsample.Goals as goal

pub halve_row-requires : goal.halve_row-requires
halve_row-requires c = let a = c.args in
    let h = c.requires in
    let r = c.loop-r.r in
    record {
      narrow = h.narrow;
      row_small = omega arith;
      rows = rows_inside a.width a.height r (length a.p.now) h.pels (omega arith);
      room = room-inside a.width a.height r h.room c.loop-r.auto.out (omega arith);
    }

pub loop-r-preserved : goal.loop-r-preserved
loop-r-preserved c = let a = c.args in
    let w = a.width in
    c.halve_row.ensures ∙ row_by_row-more (half_pel a.p.now w) (w / 2) c.loop-r.r a.out.now c.loop-r.invariant

pub returns : goal.returns
unfolding half_plane
returns c = let a = c.args in
    let w = a.width in
    c.loop-r.invariant
    ∙ ap (λ (k : ℕ). onto (row_by_row (half_pel a.p.now w) (w / 2) k) a.out.now) (let e : c.loop-r.r ≡ a.height / 2 = omega arith in e)
