-- `Model::write_slots`: at each turn one slot more is written, and at the end all.
-- Assumes nothing.
use lib.ListN.{drop}
use Rattle.bits.proofs.Buffer.{Reached}
use Rattle.grid.specs.Slots.{slots_of}
use Rattle.header.specs.Writing.{slots_bits, model_bits}
use Rattle.header.proofs.Model.write_slots.Given as goal

abbrev pub invariant-loop-slot : goal.invariant-loop-slot
invariant-loop-slot l = let m = l.self in
    Reached l.initial.header l.initial.next.at (model_bits m.flag m.params.now m.prior.now m.gm_type m.first) l.header l.next.at (slots_bits m.flag m.params.now m.prior.now m.gm_type m.first (drop l.slot-index (slots_of m.gm_type)))
