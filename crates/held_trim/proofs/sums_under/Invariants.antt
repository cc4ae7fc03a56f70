-- `held_trim::sums_under`: what is left to add, from here as from the first sample; where the square is above the limit nothing is added.
-- Assumes nothing.
use lib.ListN.{length}
use mathlib.Core.Path.{◌≡◌}
use lib.ListN.{drop}
use Rattle.laws.specs.Loops.{fold}
use Rattle.trim.specs.Inner.{up_to}
use Rattle.trim.proofs.Under.{under_step}
use Rattle.held_trim.proofs.sums_under.Given as goal

abbrev pub invariant-loop-i : goal.invariant-loop-i
invariant-loop-i g l = let step = g.S.FitSums.stepped in
    fold (under_step step l.samples l.squares l.limit) (drop l.i (up_to (length l.samples))) l.t ≡ fold (under_step step l.samples l.squares l.limit) (up_to (length l.samples)) l.initial.t
