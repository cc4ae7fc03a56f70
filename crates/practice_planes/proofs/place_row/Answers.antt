-- `place_row`: a row ends within its plane, so that nothing wraps, and it comes back as a part of the buffer.
-- Assumes nothing.
use Prim.Native.Nat.{ℕ, ◌+◌, ◌*◌, ◌≤◌}
use mathlib.Core.List.{List}
use mathlib.Core.Path.{sym, ap, ◌∙◌}
use native.Mathlib.Omega.{arith}
use lib.ListN.{length}
use Rattle.laws.proofs.Products.{row_fits}
use Rattle.laws.proofs.Filling.{length-listing}
use Rattle.laws.specs.Parts.{listing}
use Rattle.plane.specs.declared.Offset.{Offset}
use Rattle.plane.specs.declared.Place.{Place}
use Rattle.plane.proofs.Clamped.{plane-small}
use Rattle.plane.proofs.Listing.{part-back, part_length}
use Rattle.practice_planes.specs.Inner.{MovedRow, moved}
use Rattle.practice_planes.proofs.place_row.Goals as goal

ends : {p : List ℕ} {row : Place} {by : Offset} → MovedRow p row by → row.r * row.width + row.width ≤ row.height * row.width
ends {row = row} m = row_fits row.width m.inside

small : {p : List ℕ} {row : Place} {by : Offset} → MovedRow p row by → row.height * row.width ≤ 1048576
small {row = row} m = plane-small row.width row.height m.small.narrow m.small.low

pub overflow_mul-from : goal.overflow_mul-from
overflow_mul-from c = let m = c.requires.moved_row in omega (arith, ends m, small m)

pub overflow_add-from : goal.overflow_add-from
overflow_add-from c = let m = c.requires.moved_row in omega (arith, ends m, small m)

pub offset_bounds-input-from : goal.offset_bounds-input-from
offset_bounds-input-from c = let m = c.requires.moved_row in omega (arith, ends m, small m)

pub slice_bounds-move_row-end : goal.slice_bounds-move_row-end
slice_bounds-move_row-end c = let m = c.requires.moved_row in omega (arith, ends m, small m)

pub move_row-requires : goal.move_row-requires
move_row-requires c = let s = c in
    let w = s.args.row.width in
    let long : s.args.row.r * w + w ≤ length s.args.input.now = omega (arith, ends s.requires.moved_row) in record { moved_row = s.requires.moved_row; width_value = sym (part_length (s.args.row.r * w) w s.args.input.now long) }

pub returns : goal.returns
returns c = let s = c in
    let row = s.args.row in
    let w = row.width in
    let old = s.args.input.now in
    let long : row.r * w + w ≤ length old = omega (arith, ends s.requires.moved_row) in
    let f = moved s.args.reference.now row s.args.by in
    part-back (row.r * w) w old (length-listing f w)
    (c.move_row.ensures ∙ ap (listing f) (part_length (row.r * w) w old long))
