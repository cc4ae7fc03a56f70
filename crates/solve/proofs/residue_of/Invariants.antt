-- `solve::residue_of`: what is left to subtract, from here as from the diagonal.
-- Assumes nothing.
use Rattle.laws.specs.Loops.{run}
use mathlib.Core.Path.{◌≡◌}
use Rattle.solve.specs.Solution.{residue_step}
use Rattle.solve.proofs.residue_of.Given as goal

abbrev pub invariant-loop-k : goal.invariant-loop-k
invariant-loop-k l = run (residue_step l.a l.x l.row) l.k l.size l.acc ≡ run (residue_step l.a l.x l.row) l.initial.k l.size l.initial.acc
