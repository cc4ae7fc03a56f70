-- `Model::length`: the type bits, and what is left to add of the slots gives what was to be added.
-- Assumes nothing.
use Prim.Native.Nat.{◌+◌, ◌*◌, ◌≤◌}
use mathlib.Core.Path.{◌≡◌}
use lib.ListN.{drop}
use Rattle.grid.specs.Slots.{slots_of}
use Rattle.header.specs.Count.{total, slot_count, model_count}
use Rattle.header.proofs.Model.length.Given as goal

abbrev pub invariant-loop-slot : goal.invariant-loop-slot
invariant-loop-slot l = let m = l.self in
    (l.n + total (slot_count m.flag m.params.now m.prior.now m.gm_type m.first) (drop l.slot-index (slots_of m.gm_type)) ≡ model_count m.flag m.params.now m.prior.now m.gm_type m.first)
    × (l.n ≤ 3 + 64 * l.slot-index)
