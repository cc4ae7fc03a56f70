-- `score::residuals_over`: what is left to add, from here as from the first sample.
-- Assumes nothing.
use Rattle.score.specs.Score.{score_step}
use Rattle.fit.specs.Sums.{itself, reading}
use Rattle.laws.specs.Loops.{fold}
use lib.ListN.{drop}
use mathlib.Core.Path.{◌≡◌}
use Rattle.score.proofs.residuals_over.Given as goal

abbrev pub invariant-loop-s : goal.invariant-loop-s
invariant-loop-s l = fold (reading (score_step l.m) itself) (drop l.s-index l.samples) l.acc ≡ fold (reading (score_step l.m) itself) l.samples l.initial.acc
