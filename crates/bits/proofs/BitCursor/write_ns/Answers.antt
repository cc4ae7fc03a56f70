-- `bits::BitCursor::write_ns`: the code is one field. Assumes nothing.
use native.Mathlib.Omega.{arith}
use Rattle.bits.specs.Ns.{ns_bits}
use Rattle.bits.proofs.Words.{room-field}
use Rattle.bits.proofs.BitCursor.write_ns.Goals as goal

pub write_bits-requires : goal.write_bits-requires
write_bits-requires c = let a = c.args in
    let f = c.ns_field-field in
    (omega (arith, f.ensures.1), room-field a.buffer.now a.self.at f.result (ns_bits a.n a.v) f.ensures.0 c.requires.2)
