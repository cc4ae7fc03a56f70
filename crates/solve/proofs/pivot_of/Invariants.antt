-- `solve::pivot_of`: what is left to compare, from here as from the diagonal.
-- Assumes nothing.
use Prim.Native.Nat.{◌<◌}
use Rattle.laws.specs.Loops.{run}
use mathlib.Core.Path.{◌≡◌}
use Rattle.solve.specs.Elimination.{pivot_step}
use Rattle.solve.proofs.pivot_of.Given as goal

abbrev pub invariant-loop-row : goal.invariant-loop-row
invariant-loop-row l = (run (pivot_step l.a l.col) l.row l.size l.pivot ≡ run (pivot_step l.a l.col) l.initial.row l.size l.initial.pivot) × (l.pivot < 4)
