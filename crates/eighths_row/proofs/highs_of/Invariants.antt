-- `highs_of`: each turn writes the high byte of the next pel after those before it.
-- Assumes nothing.
use Prim.Native.Nat.{◌/◌}
use lib.ListN.{length, get_or}
use Rattle.cost.proofs.Bounded.{Filling}
use Rattle.eighths_row.proofs.highs_of.Given as goal

abbrev pub invariant-loop-i : goal.invariant-loop-i
invariant-loop-i l = Filling (λ k. get_or l.window k 0 / 256) (λ k. get_or l.window k 0 / 256) 255 (length l.window) l.initial.out l.out l.i
