-- `half_row`: each turn writes the next mean of four after those before it.
-- Assumes nothing.
use mathlib.Core.Path.{◌≡◌}
use Rattle.laws.specs.Buffer.{onto}
use Rattle.laws.specs.Parts.{listing}
use Rattle.plane.specs.Inner.{half_of_rows}
use Rattle.plane.proofs.half_row.Given as goal

abbrev pub invariant-loop-c : goal.invariant-loop-c
invariant-loop-c l = l.out ≡ onto (listing (half_of_rows l.top l.bottom) l.c) l.initial.out
