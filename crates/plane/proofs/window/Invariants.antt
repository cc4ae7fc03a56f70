-- `window`: each turn places the next row after the rows before it.
-- Assumes nothing.
use mathlib.Core.Path.{◌≡◌}
use Rattle.laws.specs.Buffer.{onto}
use Rattle.plane.specs.Plane.{row_by_row}
use Rattle.plane.specs.Inner.{window_pel}
use Rattle.plane.proofs.window.Given as goal

abbrev pub invariant-loop-a : goal.invariant-loop-a
invariant-loop-a l = l.out ≡ onto (row_by_row (window_pel l.plane l.place l.by l.bias) l.side l.a) l.initial.out
