-- `eight_offsets`: each turn stores the offset cost of the next candidate.
-- Assumes nothing.
use Prim.Native.Nat.{◌+◌}
use Rattle.stage.specs.Inner.{at, magnitudes_of}
use Rattle.cost.proofs.Bounded.{Filling}
use Rattle.coarse.proofs.eight_offsets.Given as goal

abbrev pub invariant-loop-k : goal.invariant-loop-k
invariant-loop-k l = Filling (λ j. magnitudes_of 12 (at l.y (l.x + j))) (λ j. magnitudes_of 12 (at l.y (l.x + j))) 512 8 l.initial.costs l.costs l.k
