-- `eighths_step`: a best of 0 stays; from another what is left of the nine candidates leads from the best so far to where all lead from the start.
-- Assumes nothing.
use Prim.Native.Nat.{◌+◌, ◌*◌, ◌≤◌}
use Rattle.blend.specs.Inner.{window_from}
use Rattle.stage.specs.Inner.{step_turn}
use Rattle.stage.proofs.Turns.{Turns}
use Rattle.eighths_steps.proofs.eighths_step.Given as goal

abbrev pub invariant-loop-k : goal.invariant-loop-k
invariant-loop-k l = Turns (step_turn l.corner l.centre l.step l.block (window_from l.highs l.lows)) 0 9 l.initial.best l.k l.best × (l.best.rows ≤ l.initial.best.rows + 16 * l.k)
