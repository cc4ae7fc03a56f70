-- `coded_of`: on both sides of the test the bits and the centre are the slot's.
-- Assumes nothing.
use native.Mathlib.Omega.{arith}
use mir.Facts.{to_z-of_z}
use Rattle.grid.proofs.Places.{answered, linear-bits}
use Rattle.grid.proofs.coded_of.Goals as goal

pub returns-then-slot-lt2 : goal.returns-then-slot-lt2
returns-then-slot-lt2 c = let a = c.args in
    let grid = c.of.ensures in
    answered a.gm_type a.flag a.slot a.value a.prior c.requires _ _ _ grid.abs grid.prec grid.round
    _ (rw (to_z-of_z c.ranges.value, to_z-of_z c.ranges.prior) at c.coded.ensures)

pub returns : goal.returns
returns c = let a = c.args in
    let bits = linear-bits a.gm_type a.flag a.slot (omega (arith, c.if-slot-lt2.false)) in
    answered a.gm_type a.flag a.slot a.value a.prior c.requires 12 15 _ bits.0 bits.1 c.centre_of-round.ensures
    _ (rw (to_z-of_z c.ranges.value, to_z-of_z c.ranges.prior) at c.coded-2.ensures)
