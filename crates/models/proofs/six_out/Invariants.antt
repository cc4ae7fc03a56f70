-- `six_out`: no prior before the counter's is out of range, and the first that is ends the loop.
-- Assumes nothing.
use Prim.Native.Nat.{◌+◌}
use mathlib.Core.Bool.{false}
use mathlib.Core.Path.{◌≡◌}
use Rattle.laws.specs.Below.{any_below}
use Rattle.models.specs.Models.{prior_at}
use Rattle.models.proofs.six_out.Given as goal

abbrev pub invariant-loop-slot : goal.invariant-loop-slot
invariant-loop-slot l = any_below (prior_at l.prior) (l.first + l.slot) ≡ false
