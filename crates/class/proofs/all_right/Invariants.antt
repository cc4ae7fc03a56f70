-- `class::all_right`: the words before and those left, from the place reached, are judged as all of them. Assumes nothing.
use mathlib.Core.Path.{◌≡◌}
use lib.ListN.{drop}
use Rattle.laws.specs.Refusal.{both}
use Rattle.sample.specs.Storable.{storable, storable_from}
use Rattle.class.specs.Class.{all_bare}
use Rattle.class.proofs.all_right.Given as goal

abbrev pub invariant-loop-word : goal.invariant-loop-word
invariant-loop-word l =
    both l.right (both (storable_from l.least (drop l.word-index l.words)) (all_bare (drop l.word-index l.words))) ≡ both (storable l.words) (all_bare l.words)
