-- `quantize::refit_walk`: what is left of the samples, from here as from the first.
-- Assumes nothing.
use Rattle.quantize.specs.Inner.{refitting_step}
use Rattle.laws.specs.Loops.{fold}
use lib.ListN.{drop}
use mathlib.Core.Path.{◌≡◌}
use Rattle.quantize.proofs.refit_walk.Given as goal

abbrev pub invariant-loop-s : goal.invariant-loop-s
invariant-loop-s l = fold refitting_step (drop l.s-index l.samples) l.t ≡ fold refitting_step l.samples l.initial.t
