-- `downsample`: each turn places the next row after the rows before it.
-- Assumes nothing.
use Prim.Native.Nat.{◌/◌}
use mathlib.Core.Path.{◌≡◌}
use Rattle.laws.specs.Buffer.{onto}
use Rattle.plane.specs.Plane.{row_by_row, half_pel}
use Rattle.plane.proofs.downsample.Given as goal

abbrev pub invariant-loop-r : goal.invariant-loop-r
invariant-loop-r l = l.out ≡ onto (row_by_row (half_pel l.p l.width) (l.width / 2) l.r) l.initial.out
