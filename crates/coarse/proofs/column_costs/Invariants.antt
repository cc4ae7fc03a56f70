-- `column_costs`: each turn stores the magnitude of the next column.
-- Assumes nothing.
use Rattle.plane.specs.Difference.{difference}
use Rattle.cost.proofs.Bounded.{Filling}
use Rattle.coarse.proofs.column_costs.Given as goal

abbrev pub invariant-loop-x : goal.invariant-loop-x
invariant-loop-x l = Filling (λ i. 0) (λ i. difference i 12) 0 25 l.initial.cost-items l.cost-items l.x
