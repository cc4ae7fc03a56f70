-- `rest_out`: no prior before the counter's is out of range, and the first that is ends the loop.
-- Assumes nothing.
use mathlib.Core.Bool.{false}
use mathlib.Core.Path.{◌≡◌}
use Rattle.laws.specs.Below.{any_below}
use Rattle.models.specs.Models.{prior_at}
use Rattle.models.proofs.rest_out.Given as goal

abbrev pub invariant-loop-i : goal.invariant-loop-i
invariant-loop-i l = any_below (prior_at l.prior) l.i ≡ false
