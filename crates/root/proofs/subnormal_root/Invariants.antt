-- `root::subnormal_root`: doubling the digits and halving the power leaves the number, until it has its leading digit.
-- Assumes nothing.
use Rattle.root.proofs.Scaling.{Doubled}
use Rattle.root.proofs.subnormal_root.Given as goal

abbrev pub invariant-loop-m : goal.invariant-loop-m
invariant-loop-m l = Doubled l.pattern l.m l.power

abbrev pub decreases-loop-m : goal.decreases-loop-m
decreases-loop-m l = l.power
