-- `class_set::choose`: the words stored so far, then the named ones that are left, are the named words. Assumes nothing.
use Prim.Native.Nat.{◌≤◌}
use mathlib.Core.List.{◌++◌}
use mathlib.Core.Path.{◌≡◌}
use lib.ListN.{length, take, drop}
use Rattle.class_set.specs.Set.{chosen}
use Rattle.class_set.proofs.choose.Given as goal

abbrev pub invariant-loop-word : goal.invariant-loop-word
invariant-loop-word l =
    (l.n ≤ length l.yielded)
    × (take l.n l.out ++ chosen l.set (drop (length l.yielded) l.words) (drop (length l.yielded) l.classes) ≡ chosen l.set l.words l.classes)
