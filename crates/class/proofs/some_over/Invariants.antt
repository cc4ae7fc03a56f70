-- `class::some_over`: one found before or one among those left is over the last exactly if one of all is. Assumes nothing.
use mathlib.Core.Path.{◌≡◌}
use lib.Dec.{ltb}
use lib.ListN.{drop}
use Rattle.laws.specs.Refusal.{any, either}
use Rattle.class.proofs.some_over.Given as goal

abbrev pub invariant-loop-class : goal.invariant-loop-class
invariant-loop-class l = either l.over (any (ltb l.last) (drop l.class-index l.classes)) ≡ any (ltb l.last) l.classes
