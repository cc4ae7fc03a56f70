-- `median::median`: at most as many as half the length lie below lo, and more below hi, until hi is the next pattern.
-- Assumes nothing.
use Prim.Native.Nat.{◌-◌}
use Rattle.median.proofs.Search.{Between}
use Rattle.median.proofs.median.Given as goal

abbrev pub invariant-loop-lo : goal.invariant-loop-lo
invariant-loop-lo l = Between l.values l.lo l.hi

abbrev pub decreases-loop-lo : goal.decreases-loop-lo
decreases-loop-lo l = l.hi - l.lo
