-- `clamped_row`: each turn writes the next displaced pel after those before it.
-- Assumes nothing.
use mathlib.Core.Path.{◌≡◌}
use Rattle.laws.specs.Buffer.{onto}
use Rattle.laws.specs.Parts.{listing}
use Rattle.plane.specs.Inner.{row_pel}
use Rattle.plane.proofs.clamped_row.Given as goal

abbrev pub invariant-loop-b : goal.invariant-loop-b
invariant-loop-b l = l.out ≡ onto (listing (row_pel l.plane l.place l.by l.bias) l.b) l.initial.out
