-- `fill_input`: each turn places the next row after the rows before it.
-- Assumes nothing.
use Prim.Native.Nat.{ℕ}
use mathlib.Core.List.{List}
use mathlib.Core.Path.{◌≡◌}
use Rattle.laws.specs.Buffer.{onto}
use Rattle.plane.specs.declared.Offset.{Offset}
use Rattle.plane.specs.declared.Sides.{Sides}
use Rattle.plane.specs.Plane.{row_by_row}
use Rattle.practice_planes.specs.Inner.{moved}
use Rattle.practice_planes.proofs.fill_input.Given as goal

-- the pel at row r, column c of the input plane
abbrev pub pel_of : List ℕ → Sides → Offset → ℕ → ℕ → ℕ
pel_of p sides by r = moved p (record { width = sides.width; height = sides.height; r = r; c = 0 }) by

abbrev pub invariant-loop-r : goal.invariant-loop-r
invariant-loop-r l = l.input ≡ onto (row_by_row (pel_of l.reference l.sides l.by) l.sides.width l.r) l.initial.input
