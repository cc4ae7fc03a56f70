-- `held_trim::count_under`: what is left to count, from here as from the first square.
-- Assumes nothing.
use Prim.Native.Nat.{◌≤◌}
use mathlib.Core.Path.{◌≡◌}
use lib.ListN.{drop}
use Rattle.laws.specs.Loops.{fold}
use Rattle.trim.specs.Inner.{up_to}
use Rattle.trim.proofs.Under.{count_step}
use Rattle.held_trim.proofs.count_under.Given as goal

abbrev pub invariant-loop-i : goal.invariant-loop-i
invariant-loop-i l = (l.i ≤ l.n) × (l.count ≤ l.i) × (fold (count_step l.squares l.limit) (drop l.i (up_to l.n)) l.count ≡ fold (count_step l.squares l.limit) (up_to l.n) 0)
