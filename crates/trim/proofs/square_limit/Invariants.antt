-- `trim::square_limit`: the roots of the patterns below lo are at most the cutoff and those from hi on aren't, until lo is hi.
-- Assumes nothing.
use Prim.Native.Nat.{◌-◌}
use Rattle.trim.proofs.Roots.{Cutting}
use Rattle.trim.proofs.square_limit.Given as goal

abbrev pub invariant-loop-lo : goal.invariant-loop-lo
invariant-loop-lo l = Cutting l.cutoff l.lo l.hi

abbrev pub decreases-loop-lo : goal.decreases-loop-lo
decreases-loop-lo l = l.hi - l.lo
