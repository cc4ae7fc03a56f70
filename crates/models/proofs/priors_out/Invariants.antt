-- `priors_out`: no prior of the references passed is out of range; what is left of the list is looked at one by one.
-- Assumes nothing.
use Prim.Native.Nat.{◌*◌}
use mathlib.Core.Bool.{false}
use mathlib.Core.Path.{◌≡◌}
use Rattle.laws.specs.Below.{any_below}
use Rattle.models.specs.Models.{prior_at}
use Rattle.models.proofs.priors_out.Given as goal

abbrev pub invariant-loop-r : goal.invariant-loop-r
invariant-loop-r l = any_below (prior_at l.prior) (6 * l.r) ≡ false
