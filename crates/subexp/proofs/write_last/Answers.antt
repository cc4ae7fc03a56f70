-- `subexp::write_last`: the ones are a field, and the ns code stands right behind them. Assumes nothing.
use Prim.Native.Nat.{◌-◌}
use native.Mathlib.Omega.{arith}
use Rattle.bits.specs.Ns.{ns_bits}
use Rattle.bits.proofs.Words.{room-second, wrote-two}
use Rattle.subexp.specs.Inner.{last_bits}
use Rattle.subexp.proofs.Climbing.{last-fields}
use Rattle.subexp.proofs.write_last.Goals as goal

pub write_ns-requires : goal.write_ns-requires
write_ns-requires c = let a = c.args in
    let pre = c.requires in
    let p = c.power-ones in
    let m = c.rung_start-mk in (
      omega (arith, pre.0.start, pre.0.less, m.ensures.0),
      omega (arith, pre.0.small),
      room-second a.i (p.result - 1) (ns_bits (a.num_syms - m.result) (a.v - m.result)) (last_bits a.num_syms a.v a.i)
          (last-fields a.v a.i p.result m.result p.ensures m.ensures.0 a.num_syms) a.buffer.now a.cursor.at _ _ c.write_bits-next.ensures pre.1,
    )

pub returns : goal.returns
returns c = let a = c.args in
    let p = c.power-ones in
    let m = c.rung_start-mk in
    wrote-two a.i (p.result - 1) (ns_bits (a.num_syms - m.result) (a.v - m.result)) (last_bits a.num_syms a.v a.i)
    (last-fields a.v a.i p.result m.result p.ensures m.ensures.0 a.num_syms) c.write_bits-next.ensures c.write_ns.ensures
