-- `named_samples::sums_named`: what is left to add, from here as from the first sample; of a class that is not named nothing is added.
-- Assumes nothing.
use mathlib.Core.Path.{◌≡◌}
use Rattle.laws.specs.Loops.{fold}
use Rattle.named_samples.specs.Named.{named_samples}
use Rattle.named_samples.proofs.Named.{fold_from}
use Rattle.named_samples.proofs.sums_named.Given as goal

abbrev pub invariant-loop-i : goal.invariant-loop-i
invariant-loop-i g l = let step = g.S.FitSums.stepped in
    fold_from l.set l.samples l.classes step l.i l.t ≡ fold step (named_samples l.set l.samples l.classes) l.initial.t
