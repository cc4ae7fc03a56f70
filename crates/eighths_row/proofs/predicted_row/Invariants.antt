-- `predicted_row`: each turn stores the next pel, blended from the bytes of its four neighbours.
-- Assumes nothing.
use Rattle.blend.specs.Inner.{predicted_from}
use Rattle.cost.proofs.Bounded.{Filling}
use Rattle.eighths_row.proofs.predicted_row.Given as goal

abbrev pub invariant-loop-j : goal.invariant-loop-j
invariant-loop-j l = Filling (λ i. 0) (predicted_from l.fy l.fx l.highs l.lows) 0 16 l.initial.row l.row l.j
