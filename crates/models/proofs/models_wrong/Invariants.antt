-- `models_wrong`: no model before the counter's is wrong, and the first that is ends the loop.
-- Assumes nothing.
use mathlib.Core.Bool.{false}
use mathlib.Core.Path.{◌≡◌}
use Rattle.laws.specs.Below.{any_below}
use Rattle.models.specs.Models.{model_at}
use Rattle.models.proofs.models_wrong.Given as goal

abbrev pub invariant-loop-k : goal.invariant-loop-k
invariant-loop-k l = any_below (model_at l.types l.flag l.params) l.k ≡ false
