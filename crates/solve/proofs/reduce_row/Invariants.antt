-- `solve::reduce_row`: what is left to reduce, from here as from the pivot's column.
-- Assumes nothing.
use Rattle.laws.specs.Loops.{run}
use mathlib.Core.Path.{◌≡◌}
use Rattle.solve.specs.Elimination.{reduce_at}
use Rattle.solve.proofs.reduce_row.Given as goal

abbrev pub invariant-loop-k : goal.invariant-loop-k
invariant-loop-k l = run (reduce_at l.col l.row l.factor) l.k l.size l.a ≡ run (reduce_at l.col l.row l.factor) l.initial.k l.size l.initial.a
