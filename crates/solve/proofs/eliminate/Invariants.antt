-- `solve::eliminate`: what is left to eliminate, from here as from the first column; a refused column is the last.
-- Assumes nothing.
use Rattle.laws.specs.Loops.{run}
use mathlib.Core.Path.{◌≡◌}
use Rattle.solve.specs.Elimination.{system, eliminating, column_step, solvable}
use Rattle.solve.proofs.eliminate.Given as goal

abbrev pub invariant-loop-col : goal.invariant-loop-col
invariant-loop-col l = run (column_step l.size) l.col l.size (eliminating (system l.a l.b) solvable) ≡ run (column_step l.size) l.initial.col l.size (eliminating (system l.initial.a l.initial.b) solvable)
