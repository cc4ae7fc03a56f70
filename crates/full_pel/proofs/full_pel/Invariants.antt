-- `full_pel`: a start of 0 stays; from another what is left of the 49 candidates leads from the best so far to where all lead from it.
-- Assumes nothing.
use Prim.Native.Nat.{◌+◌, ◌*◌, ◌≤◌}
use Rattle.stage.specs.Inner.{full_turn}
use Rattle.stage.proofs.Turns.{Turns}
use Rattle.full_pel.proofs.full_pel.Given as goal

abbrev pub invariant-loop-k : goal.invariant-loop-k
invariant-loop-k l = Turns (full_turn l.centre l.block l.window) 0 49 l.initial.best l.k l.best × (l.best.rows ≤ 16 + 16 * l.k)
