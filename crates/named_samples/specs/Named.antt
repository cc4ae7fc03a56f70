-- Samples that are lent as four numbers each, x, y, u, v, and those of the named classes, in their order, by a class for each.
-- docs/RULES.md, 'Sets of classes'.
-- Assumes nothing.
use Rattle.std.specs.Prelude.{ℕ, List, map, get_or, Float}
use Rattle.std.specs.Float.{nan}
use Rattle.sample.specs.declared.MotionSample.{MotionSample}
use Rattle.class_set.specs.Set.{chosen}

abbrev pub lent_sample : List Float → MotionSample
lent_sample four = record { x = get_or four 0 nan; y = get_or four 1 nan; u = get_or four 2 nan; v = get_or four 3 nan }

abbrev pub samples_of : List (List Float) → List MotionSample
samples_of fours = map lent_sample fours

abbrev pub named_samples : ℕ → List (List Float) → List ℕ → List MotionSample
named_samples set fours classes = chosen set (samples_of fours) classes
