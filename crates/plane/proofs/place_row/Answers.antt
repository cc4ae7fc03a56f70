-- `place_row`: the row comes back as a part of the buffer.
-- Assumes nothing.
use Prim.Native.Nat.{ℕ, ◌*◌}
use mathlib.Core.Path.{ap, ◌∙◌}
use Rattle.laws.specs.Parts.{listing}
use Rattle.laws.proofs.Filling.{length-listing}
use Rattle.plane.specs.Inner.{window_pel}
use Rattle.plane.proofs.Listing.{part-back, part_length}
use Rattle.plane.proofs.place_row.Goals as goal

pub returns : goal.returns
returns c = let a = c.args in
    let pel = window_pel a.plane.now a.place a.by a.bias a.a in
    part-back (a.a * a.side) a.side a.out.now (length-listing pel a.side)
    (c.window_row.ensures
    ∙ ap (λ (n : ℕ). listing pel n) (part_length (a.a * a.side) a.side a.out.now c.requires.window_row.row))
