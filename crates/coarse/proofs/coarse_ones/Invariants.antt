-- `coarse_ones`: what is left of the candidates leads from the best so far to where all lead from the start.
-- Assumes nothing.
use Prim.Native.Nat.{◌+◌, ◌*◌, ◌-◌, ◌≤◌}
use Rattle.stage.specs.Inner.{coarse_turn}
use Rattle.stage.proofs.Turns.{Turns}
use Rattle.coarse.proofs.coarse_ones.Given as goal

abbrev pub invariant-loop-x : goal.invariant-loop-x
invariant-loop-x l = Turns (coarse_turn l.block l.window) (l.y * 25 + l.from) (l.y * 25 + l.to) l.initial.best (l.y * 25 + l.x) l.best × (l.best.rows ≤ l.initial.best.rows + 8 * (l.x - l.from)) × (l.from ≤ l.x)
