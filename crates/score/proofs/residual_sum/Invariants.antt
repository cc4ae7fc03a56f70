-- `score::residual_sum`: what is left to add, from here as from the first word.
-- Assumes nothing.
use Rattle.score.specs.Score.{score_step}
use Rattle.fit.specs.Sums.{reading}
use Rattle.sample.specs.Sample.{sample_of}
use Rattle.laws.specs.Loops.{fold}
use lib.ListN.{drop}
use mathlib.Core.Path.{◌≡◌}
use Rattle.score.proofs.residual_sum.Given as goal

abbrev pub invariant-loop-word : goal.invariant-loop-word
invariant-loop-word l = fold (reading (score_step l.m) sample_of) (drop l.word-index l.words) l.acc ≡ fold (reading (score_step l.m) sample_of) l.words l.initial.acc
