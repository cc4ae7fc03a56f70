-- `all_low`: the greatest pel so far is at least each of them.
-- Assumes nothing.
use Rattle.lanes.proofs.Lanes.{Highest}
use Rattle.lanes.proofs.all_low.Given as goal

abbrev pub invariant-loop-pel : goal.invariant-loop-pel
invariant-loop-pel l = Highest l.pels l.pel-index l.highest
