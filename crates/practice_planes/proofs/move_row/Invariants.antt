-- `move_row`: each turn writes the next displaced pel after those before it.
-- Assumes nothing.
use mathlib.Core.Path.{◌≡◌}
use Rattle.laws.specs.Buffer.{onto}
use Rattle.laws.specs.Parts.{listing}
use Rattle.practice_planes.specs.Inner.{moved}
use Rattle.practice_planes.proofs.move_row.Given as goal

abbrev pub invariant-loop-c : goal.invariant-loop-c
invariant-loop-c l = l.out ≡ onto (listing (moved l.reference l.row l.by) l.c) l.initial.out
