-- `halve_row`: two rows of the plane, as parts of it, halve to the row, which comes back as a part of the buffer.
-- Assumes nothing.
use Prim.Native.Nat.{◌+◌, ◌*◌, ◌/◌, ◌-◌}
use mathlib.Core.Path.{◌∙◌}
use lib.ListN.{length, take, drop}
use Rattle.laws.proofs.Filling.{length-listing}
use Rattle.plane.specs.Plane.{half_pel}
use Rattle.plane.proofs.Listing.{part-back, part_length}
use Rattle.plane.proofs.Halves.{half-row-is}
use Rattle.plane.proofs.halve_row.Goals as goal

pub returns : goal.returns
returns c = let a = c.args in
    let w = a.width in
    let r = a.r in
    let out = a.out.now in
    part-back (r * (w / 2)) (w / 2) out (length-listing (half_pel a.p.now w r) (w / 2))
    (c.half_row.ensures
    ∙ half-row-is a.p.now w r (length (take (r * (w / 2) + w / 2 - r * (w / 2)) (drop (r * (w / 2)) out)))
    (part_length (r * (w / 2)) (w / 2) out c.requires.room))
