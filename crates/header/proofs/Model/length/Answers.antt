use mathlib.Core.Path.{◌≡◌, sym, ap, ◌∙◌}
use native.Mathlib.Omega.{arith}
use lib.ListN.{length, drop_of_length-le}
use Rattle.bits.proofs.Fields.{length-field_bits}
use Rattle.grid.specs.Slots.{slots_of}
use Rattle.grid.proofs.Slots.{six-slots-at-most}
use Rattle.header.specs.Count.{model_count}
use Rattle.header.specs.Writing.{type_bits}
use Rattle.header.proofs.Slots.{slot-known, slots-left}
use Rattle.header.proofs.Model.length.Goals as goal

pub loop-slot-init : goal.loop-slot-init
unfolding model_count
loop-slot-init c = let t = c.type_field-n in
    let n : t.result.n ≡ length (type_bits c.args.self.gm_type) = sym (length-field_bits t.result.n t.result.value) ∙ ap length t.ensures.0.bits in
    (rw n, t.ensures.1)

pub slot_length-requires : goal.slot_length-requires
slot_length-requires c = let s = c.slots_carried-slots.ensures in
    rw s (slot-known c.args.self.gm_type c.loop-slot.slot-index (rw s at c.loop-slot-test.true))

pub loop-slot-preserved : goal.loop-slot-preserved
loop-slot-preserved c = let s = c.slots_carried-slots.ensures in
    let l = c.loop-slot in
    let e = rw (slots-left c.args.self.gm_type l.slot-index (rw s at c.loop-slot-test.true)) at l.invariant.0 in
    let one = rw s at c.slot_length.ensures in
    (omega (arith, e, one.0), omega (arith, l.invariant.1, one.1))

pub returns : goal.returns
returns c = let l = c.loop-slot in
    let slots = slots_of c.args.self.gm_type in
    let s = c.slots_carried-slots.ensures in
    let e = rw (drop_of_length-le slots (rw s at c.loop-slot-test.false)) at l.invariant.0 in
    (omega (arith, e), omega (arith, l.invariant.1, rw s at l.auto.slot-index-end, six-slots-at-most c.args.self.gm_type))
