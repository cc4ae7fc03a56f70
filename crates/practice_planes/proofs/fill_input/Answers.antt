use Prim.Native.Nat.{ℕ}
use mathlib.Core.Path.{◌≡◌, refl, ap, ◌∙◌}
use native.Mathlib.Omega.{arith}
use Rattle.laws.specs.Buffer.{onto}
use Rattle.plane.specs.Plane.{row_by_row}
use Rattle.plane.proofs.Listing.{row_by_row-more}
use Rattle.practice_planes.specs.Belt.{input_plane}
use Rattle.practice_planes.proofs.fill_input.Invariants.{pel_of}
use Rattle.practice_planes.proofs.fill_input.Goals as goal

pub loop-r-init : goal.loop-r-init
loop-r-init c = refl

pub place_row-requires : goal.place_row-requires
place_row-requires c = let p = c.requires in record { moved_row = record { small = p.room.small; pels = p.pels; inside = c.loop-r-test.true; near = p.near }; width_in_bounds = rw c.loop-r.auto.input p.room.room }

pub loop-r-preserved : goal.loop-r-preserved
loop-r-preserved c = let a = c.args in
    let l = c.loop-r in
    c.place_row.ensures ∙ row_by_row-more (pel_of a.reference.now a.sides a.by) a.sides.width l.r a.input.now l.invariant

pub returns : goal.returns
unfolding input_plane
returns c = let a = c.args in
    let l = c.loop-r in
    l.invariant
    ∙ ap (λ (k : ℕ). onto (row_by_row (pel_of a.reference.now a.sides a.by) a.sides.width k) a.input.now)
    (let e : l.r ≡ a.sides.height = omega arith in e)
