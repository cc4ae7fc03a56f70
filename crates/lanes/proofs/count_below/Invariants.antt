-- `count_below`: each turn counts the next lane or not.
-- Assumes nothing.
use lib.ListN.{get_or}
use Rattle.cost.proofs.Sum.{Adds}
use Rattle.lanes.specs.Inner.{live}
use Rattle.lanes.proofs.count_below.Given as goal

abbrev pub invariant-loop-cost : goal.invariant-loop-cost
invariant-loop-cost l = Adds (λ i. live l.best (get_or l.cost-items i 0)) 1 8 l.cost-index l.below
