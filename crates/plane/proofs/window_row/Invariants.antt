-- `window_row`: each turn writes the next pel of the part of the plane after those before it.
-- Assumes nothing.
use mathlib.Core.Path.{◌≡◌}
use lib.ListN.{get_or}
use Rattle.laws.specs.Buffer.{onto}
use Rattle.laws.specs.Parts.{listing}
use Rattle.plane.proofs.window_row.Given as goal

abbrev pub invariant-loop-b : goal.invariant-loop-b
invariant-loop-b l = l.out ≡ onto (listing (λ i. get_or l.row i 0) l.b) l.initial.out
