-- `row_difference`: each turn adds the difference of the next two pels.
-- Assumes nothing.
use lib.ListN.{get_or}
use Rattle.plane.specs.Difference.{difference}
use Rattle.cost.proofs.Sum.{Adds}
use Rattle.cost.proofs.whole.row_difference.Given as goal

abbrev pub invariant-loop-j : goal.invariant-loop-j
invariant-loop-j g l = Adds (λ k. difference (get_or l.a k 0) (get_or l.b k 0)) 65535 g.row.N l.j l.cost
