-- `slots_wrong`: no slot before the counter's is wrong, and the first that is ends the loop.
-- Assumes nothing.
use mathlib.Core.Bool.{false}
use mathlib.Core.Path.{◌≡◌}
use Rattle.laws.specs.Below.{any_below}
use Rattle.models.specs.Models.{slot_at}
use Rattle.models.proofs.slots_wrong.Given as goal

abbrev pub invariant-loop-slot : goal.invariant-loop-slot
invariant-loop-slot l = any_below (slot_at l.gm_type l.flag l.params l.first) l.slot ≡ false
