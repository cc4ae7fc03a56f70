-- `named_samples::refit_named`: as the sums of a fit, with the step of the refit.
-- Assumes nothing.
use mathlib.Core.Path.{◌≡◌}
use Rattle.laws.specs.Loops.{fold}
use Rattle.quantize.specs.Inner.{refitting_step}
use Rattle.named_samples.specs.Named.{named_samples}
use Rattle.named_samples.proofs.Named.{fold_from}
use Rattle.named_samples.proofs.refit_named.Given as goal

abbrev pub invariant-loop-i : goal.invariant-loop-i
invariant-loop-i l = fold_from l.set l.samples l.classes refitting_step l.i l.t ≡ fold refitting_step (named_samples l.set l.samples l.classes) l.initial.t
