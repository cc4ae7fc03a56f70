-- `sample::storable_from`: the words that are left, from the place reached, are judged as all of them. Assumes nothing.
use mathlib.Core.Path.{◌≡◌}
use lib.ListN.{drop}
use Rattle.sample.specs.Storable.{storable_from}
use Rattle.sample.proofs.storable_from.Given as goal

abbrev pub invariant-loop-word : goal.invariant-loop-word
invariant-loop-word l = storable_from l.least (drop l.word-index l.words) ≡ storable_from l.first l.words
