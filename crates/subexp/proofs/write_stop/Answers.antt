-- `subexp::write_stop`: the ones and the zero are a field, and the number's bits stand right behind them. Assumes nothing.
use Prim.Native.Nat.{◌+◌, ◌-◌, ◌*◌}
use native.Mathlib.Omega.{arith}
use Rattle.bits.specs.Fields.{field_bits}
use Rattle.bits.proofs.Fields.{length-field_bits}
use Rattle.bits.proofs.Words.{room-second, wrote-two}
use Rattle.subexp.specs.Inner.{stop_bits}
use Rattle.subexp.proofs.Climbing.{stop-fields}
use Rattle.subexp.proofs.write_stop.Goals as goal

pub write_bits-requires : goal.write_bits-requires
write_bits-requires c = let a = c.args in
    let p = c.power in
    let m = c.rung_start-mk in
    let b = c.rung_bits in (
      omega (arith, b.ensures.1),
      rw (length-field_bits b.result (a.v - m.result)) at
          (room-second (a.i + 1) (2 * p.result - 2) (field_bits b.result (a.v - m.result)) (stop_bits a.v a.i)
          (stop-fields a.v a.i p.result m.result p.ensures m.ensures.0 b.result b.ensures.0) a.buffer.now a.cursor.at _ _ c.write_bits-next.ensures c.requires.2),
    )

pub returns : goal.returns
returns c = let a = c.args in
    let p = c.power in
    let m = c.rung_start-mk in
    let b = c.rung_bits in
    wrote-two (a.i + 1) (2 * p.result - 2) (field_bits b.result (a.v - m.result)) (stop_bits a.v a.i)
    (stop-fields a.v a.i p.result m.result p.ensures m.ensures.0 b.result b.ensures.0) c.write_bits-next.ensures c.write_bits.ensures
