-- `fit::sums_over`: what is left to add, from here as from the first; the sums are then taken apart.
-- Assumes nothing.
use Rattle.fit.specs.Sums.{itself, reading, no_sums}
use Rattle.laws.specs.Loops.{fold}
use lib.ListN.{drop}
use mathlib.Core.Path.{◌≡◌}
use Rattle.fit.proofs.sums_over.Given as goal

abbrev pub invariant-loop-s : goal.invariant-loop-s
invariant-loop-s g l = let m = g.S.FitSums in
    fold (reading m.stepped itself) (drop l.s-index l.samples) l.t ≡ fold (reading m.stepped itself) l.samples (m.totals no_sums)
