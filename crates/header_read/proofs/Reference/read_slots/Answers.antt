use mathlib.Core.Path.{refl}
use native.Mathlib.Omega.{arith}
use mir.Syntax.{w32}
use Rattle.laws.proofs.Signed.{result-reads}
use Rattle.bits.specs.Bits.{bit_at}
use Rattle.grid.specs.Slots.{slots_of}
use Rattle.grid.proofs.Slots.{six-slots-at-most}
use Rattle.header.proofs.Slots.{slot-known, slots-left}
use Rattle.header_read.proofs.Slots.{none_yet, one_more, all_read}
use Rattle.header_read.proofs.Reference.read_slots.Goals as goal

pub loop-i-init : goal.loop-i-init
loop-i-init c = let s = c.args.self in
    none_yet (bit_at s.header.now) s.flag s.prior.now c.args.gm_type s.first (slots_of c.args.gm_type) c.args.cursor.at

pub read_slot-read-requires : goal.read_slot-read-requires
read_slot-read-requires c = let s = c.slots_carried-slots.ensures in
    let within = rw s at c.loop-i-test.true in (
      rw s (slot-known c.args.gm_type c.loop-i.i within),
      omega (arith, c.loop-i.invariant.near, c.requires, within, six-slots-at-most c.args.gm_type),
    )

pub offset_bounds-values-i : goal.offset_bounds-values-i
offset_bounds-values-i c = omega (arith, rw c.slots_carried-slots.ensures at c.loop-i-test.true, six-slots-at-most c.args.gm_type)

pub bounds-values-i : goal.bounds-values-i
bounds-values-i c = omega (arith, rw c.slots_carried-slots.ensures at c.loop-i-test.true, six-slots-at-most c.args.gm_type)

pub loop-i-preserved : goal.loop-i-preserved
loop-i-preserved c = let s = c.args.self in
    let o = c.slots_carried-slots.ensures in
    let l = c.loop-i in
    let r = c.read_slot-read in
    let within = rw o at c.loop-i-test.true in
    rw (result-reads w32 r.result.value c.struct_told-1.given.0.1)
    (one_more (bit_at s.header.now) s.flag s.prior.now c.args.gm_type s.first (slots_of c.args.gm_type) c.args.cursor.at l.values l.next.at l.i _ r.result
    (omega (arith, within, six-slots-at-most c.args.gm_type)) (slots-left c.args.gm_type l.i within) (omega (arith, within)) l.invariant (rw o at r.ensures))

pub returns : goal.returns
returns c = let s = c.args.self in
    let l = c.loop-i in
    all_read (bit_at s.header.now) s.flag s.prior.now c.args.gm_type s.first (slots_of c.args.gm_type) c.args.cursor.at l.values l.next.at l.i _
    (six-slots-at-most c.args.gm_type) (rw c.slots_carried-slots.ensures at c.loop-i-test.false) l.invariant refl refl
