-- `word_trim::keep`: the words moved so far, then what is still to be chosen, are the chosen words.
-- Assumes nothing.
use Prim.Native.Nat.{◌≤◌}
use mathlib.Core.List.{◌++◌}
use mathlib.Core.Path.{◌≡◌}
use lib.ListN.{length, take, drop}
use Rattle.laws.specs.Chosen.{chosen_by}
use Rattle.word_trim.specs.Inner.{at_most}
use Rattle.word_trim.proofs.keep.Given as goal

abbrev pub invariant-loop-i : goal.invariant-loop-i
invariant-loop-i l = (l.i ≤ length l.words) × (l.n ≤ l.i) × (length l.kept ≡ length l.initial.kept)
    × (take l.n l.kept ++ chosen_by (at_most l.limit) (drop l.i l.words) (drop l.i l.squares) ≡ chosen_by (at_most l.limit) l.words l.squares)
