-- `solve::exchange_rows`: what is left to exchange, from here as from the first column.
-- Assumes nothing.
use Rattle.laws.specs.Loops.{run}
use mathlib.Core.Path.{◌≡◌}
use Rattle.solve.specs.Elimination.{exchange_at}
use Rattle.solve.proofs.exchange_rows.Given as goal

abbrev pub invariant-loop-k : goal.invariant-loop-k
invariant-loop-k l = run (exchange_at l.first l.second) l.k l.size l.a ≡ run (exchange_at l.first l.second) l.initial.k l.size l.initial.a
