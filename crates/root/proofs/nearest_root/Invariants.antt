-- `root::nearest_root`: the bounds close around the root, whatever the guess.
-- Assumes nothing.
use Prim.Native.Nat.{◌-◌}
use Rattle.root.proofs.Halves.{Bracket}
use Rattle.root.proofs.nearest_root.Given as goal

abbrev pub invariant-loop-high : goal.invariant-loop-high
invariant-loop-high l = Bracket l.tall l.low l.high l.step

abbrev pub decreases-loop-high : goal.decreases-loop-high
decreases-loop-high l = l.high - l.low
