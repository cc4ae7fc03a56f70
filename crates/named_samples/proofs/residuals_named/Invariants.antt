-- `named_samples::residuals_named`: as the sums of a fit, with the step of the score.
-- Assumes nothing.
use mathlib.Core.Path.{◌≡◌}
use Rattle.laws.specs.Loops.{fold}
use Rattle.score.specs.Score.{score_step}
use Rattle.named_samples.specs.Named.{named_samples}
use Rattle.named_samples.proofs.Named.{fold_from}
use Rattle.named_samples.proofs.residuals_named.Given as goal

abbrev pub invariant-loop-i : goal.invariant-loop-i
invariant-loop-i l = fold_from l.set l.samples l.classes (score_step l.m) l.i l.t ≡ fold (score_step l.m) (named_samples l.set l.samples l.classes) l.initial.t
