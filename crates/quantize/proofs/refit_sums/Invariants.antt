-- `quantize::refit_sums`: what is left to add, from here as from the first word; the two sums are then taken apart.
-- Assumes nothing.
use Rattle.quantize.specs.Inner.{refit_step}
use Rattle.fit.specs.Sums.{reading}
use Rattle.sample.specs.Sample.{sample_of}
use Rattle.laws.specs.Loops.{fold}
use lib.ListN.{drop}
use mathlib.Core.Path.{◌≡◌}
use Rattle.quantize.proofs.refit_sums.Given as goal

abbrev pub invariant-loop-word : goal.invariant-loop-word
invariant-loop-word l = fold (reading (refit_step l.m) sample_of) (drop l.word-index l.words) l.t ≡ fold (reading (refit_step l.m) sample_of) l.words l.initial.t
