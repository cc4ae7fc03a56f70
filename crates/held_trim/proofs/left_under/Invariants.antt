-- `held_trim::left_under`: as the sums of a fit, with the step of the refit.
-- Assumes nothing.
use lib.ListN.{length}
use mathlib.Core.Path.{◌≡◌}
use lib.ListN.{drop}
use Rattle.laws.specs.Loops.{fold}
use Rattle.quantize.specs.Inner.{refit_step}
use Rattle.trim.specs.Inner.{up_to}
use Rattle.trim.proofs.Under.{under_step}
use Rattle.held_trim.proofs.left_under.Given as goal

abbrev pub invariant-loop-i : goal.invariant-loop-i
invariant-loop-i l = fold (under_step (refit_step l.m) l.samples l.squares l.limit) (drop l.i (up_to (length l.samples))) l.t ≡ fold (under_step (refit_step l.m) l.samples l.squares l.limit) (up_to (length l.samples)) l.initial.t
