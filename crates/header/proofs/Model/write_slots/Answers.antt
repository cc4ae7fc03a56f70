use Prim.Native.Nat.{◌+◌}
use lib.ListN.{get_or, drop, drop_of_length-le}
use Rattle.bits.proofs.Buffer.{reached-first, reached-more, reached-last}
use Rattle.grid.specs.Slots.{slots_of}
use Rattle.header.specs.Writing.{slot_bits, slots_bits, model_bits}
use Rattle.header.proofs.Slots.{slots-left}
use Rattle.header.proofs.Model.write_slots.Goals as goal

pub loop-slot-init : goal.loop-slot-init
unfolding model_bits
loop-slot-init c = reached-first _ _ _

pub loop-slot-preserved : goal.loop-slot-preserved
loop-slot-preserved c = let m = c.args.self in
    let s = c.slots_carried-slots.ensures in
    let l = c.loop-slot in
    let within = rw s at c.loop-slot-test.true in
    reached-more (slot_bits m.flag m.params.now m.prior.now m.gm_type m.first (get_or (slots_of m.gm_type) l.slot-index 0)) (slots_bits m.flag m.params.now m.prior.now m.gm_type m.first (drop (l.slot-index + 1) (slots_of m.gm_type)))
    (rw (slots-left m.gm_type l.slot-index within) at l.invariant) _ _ (rw s at c.write_slot-next.ensures)

pub returns : goal.returns
returns c = let done = rw c.slots_carried-slots.ensures at c.loop-slot-test.false in
    reached-last (rw (drop_of_length-le (slots_of c.args.self.gm_type) done) at c.loop-slot.invariant)
