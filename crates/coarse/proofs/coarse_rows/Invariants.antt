-- `coarse_rows`: what is left of the 25 rows of candidates leads from the best so far to where all lead from the start.
-- Assumes nothing.
use Prim.Native.Nat.{◌+◌, ◌*◌, ◌≤◌}
use Rattle.stage.specs.Inner.{coarse_turn}
use Rattle.stage.proofs.Turns.{Turns}
use Rattle.coarse.proofs.coarse_rows.Given as goal

abbrev pub invariant-loop-y : goal.invariant-loop-y
invariant-loop-y l = Turns (coarse_turn l.block l.window) 0 625 l.initial.best (l.y * 25) l.best × (l.best.rows ≤ l.initial.best.rows + 200 * l.y)
