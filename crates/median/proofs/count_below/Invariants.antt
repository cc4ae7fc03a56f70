-- `median::count_below`: what is counted, with what is left to count, is the whole count.
-- Assumes nothing.
use Prim.Native.Nat.{◌+◌, ◌≤◌}
use mathlib.Core.Path.{◌≡◌}
use lib.ListN.{drop}
use Rattle.median.specs.Inner.{below}
use Rattle.median.proofs.count_below.Given as goal

abbrev pub invariant-loop-value : goal.invariant-loop-value
invariant-loop-value l = (l.count ≤ l.value-index) × (l.count + below l.key (drop l.value-index l.values) ≡ below l.key l.values)
