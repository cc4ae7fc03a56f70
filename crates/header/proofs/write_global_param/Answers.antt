-- `header::write_global_param`: the code of the value's symbol, from the prior's place, is the slot's bits. Assumes nothing.
use mathlib.Core.Path.{sym}
use native.Mathlib.Omega.{arith}
use mir.Facts.{to_z-of_z}
use Rattle.bits.proofs.Buffer.{wrote_as, room_as}
use Rattle.header.proofs.Coefficient.{coded}
use Rattle.header.proofs.write_global_param.Goals as goal

pub coded_of-s-requires : goal.coded_of-s-requires
coded_of-s-requires c = let e = c.before in
    rw (to_z-of_z e.ranges.value, to_z-of_z e.ranges.prior) e.requires.0

pub encode_unsigned_subexp_with_ref-requires : goal.encode_unsigned_subexp_with_ref-requires
encode_unsigned_subexp_with_ref-requires c = let e = c.before in
    let a = e.args in
    let s = rw (to_z-of_z e.ranges.value, to_z-of_z e.ranges.prior) at c.coded_of-s.ensures in (
      s.below,
      s.less,
      omega (arith, s.few),
      room_as a.header.now a.cursor.at _ _ (sym (coded a.gm_type a.flag a.slot a.value a.prior _ _ _ s.mx s.stands s.is)) e.requires.1,
    )

pub shape_of-header : goal.shape_of-header
shape_of-header c = omega arith

pub returns : goal.returns
returns c = let e = c.before in
    let a = e.args in
    let s = rw (to_z-of_z e.ranges.value, to_z-of_z e.ranges.prior) at c.coded_of-s.ensures in
    wrote_as _ _ (coded a.gm_type a.flag a.slot a.value a.prior _ _ _ s.mx s.stands s.is) c.encode_unsigned_subexp_with_ref.ensures
