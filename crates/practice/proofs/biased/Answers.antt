-- `biased`: the sign says on which side of the bias the number lies, the magnitude how far from it.
-- Assumes nothing.
use mir.Facts.{to_z-of_z}
use Rattle.practice.proofs.Shifts.{below, above}
use Rattle.practice.proofs.biased.Goals as goal

pub returns-then-shift-lt0 : goal.returns-then-shift-lt0
returns-then-shift-lt0 c = let z = c.ranges.shift in
    rw (c.magnitude-far.ensures, to_z-of_z z) (below c.args.shift (rw (to_z-of_z z) at c.if-shift-lt0.true) c.requires)

pub returns-else-shift-lt0 : goal.returns-else-shift-lt0
returns-else-shift-lt0 c = let z = c.ranges.shift in
    rw (c.magnitude-far.ensures, to_z-of_z z) (above c.args.shift (rw (to_z-of_z z) at c.if-shift-lt0.false) c.requires)
