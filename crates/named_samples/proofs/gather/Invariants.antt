-- `named_samples::gather`: the samples stored so far, then the named ones that are left, are the named samples.
-- Assumes nothing.
use Prim.Native.Nat.{◌≤◌}
use mathlib.Core.List.{◌++◌}
use mathlib.Core.Path.{◌≡◌}
use lib.ListN.{length, take, drop}
use Rattle.class_set.specs.Set.{chosen}
use Rattle.named_samples.specs.Named.{samples_of, named_samples}
use Rattle.named_samples.proofs.gather.Given as goal

abbrev pub invariant-loop-i : goal.invariant-loop-i
invariant-loop-i l =
    (l.n ≤ l.i) × (length l.out ≡ length l.initial.out)
    × (take l.n l.out ++ chosen l.set (drop l.i (samples_of l.samples)) (drop l.i l.classes) ≡ named_samples l.set l.samples l.classes)
