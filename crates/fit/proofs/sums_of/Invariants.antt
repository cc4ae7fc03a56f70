-- `fit::sums_of`: what is left to add, from here as from the first; the sums are then taken apart.
-- Assumes nothing.
use Rattle.fit.specs.Sums.{reading, no_sums}
use Rattle.sample.specs.Sample.{sample_of}
use Rattle.laws.specs.Loops.{fold}
use lib.ListN.{drop}
use mathlib.Core.Path.{◌≡◌}
use Rattle.fit.proofs.sums_of.Given as goal

abbrev pub invariant-loop-word : goal.invariant-loop-word
invariant-loop-word g l = let m = g.S.FitSums in
    fold (reading m.stepped sample_of) (drop l.word-index l.words) l.t ≡ fold (reading m.stepped sample_of) l.words (m.totals no_sums)
