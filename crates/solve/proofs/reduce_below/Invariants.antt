-- `solve::reduce_below`: what is left to reduce, from here as from the row below the diagonal.
-- Assumes nothing.
use Rattle.laws.specs.Loops.{run}
use mathlib.Core.Path.{◌≡◌}
use Rattle.solve.specs.Elimination.{system, reduce_row}
use Rattle.solve.proofs.reduce_below.Given as goal

abbrev pub invariant-loop-row : goal.invariant-loop-row
invariant-loop-row l = run (reduce_row l.size l.col) l.row l.size (system l.a l.b) ≡ run (reduce_row l.size l.col) l.initial.row l.size (system l.initial.a l.initial.b)
