-- `solve::back_substitute`: what is left to find, from here as from the last row.
-- Assumes nothing.
use Rattle.laws.specs.Loops.{run}
use mathlib.Core.Path.{◌≡◌}
use Rattle.solve.specs.Elimination.{system}
use Rattle.solve.specs.Solution.{unknown_step, zeros}
use Rattle.solve.proofs.back_substitute.Given as goal

abbrev pub invariant-loop-i : goal.invariant-loop-i
invariant-loop-i l = run (unknown_step l.size (system l.a l.b)) l.i l.size l.x ≡ run (unknown_step l.size (system l.a l.b)) l.initial.i l.size zeros
