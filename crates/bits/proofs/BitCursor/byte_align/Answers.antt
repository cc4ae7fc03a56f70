-- `bits::BitCursor::byte_align`: zeros as many as the position lacks to a whole byte are the padding. Assumes nothing.
use native.Mathlib.Omega.{arith}
use Rattle.bits.specs.Fields.{padding}
use Rattle.bits.proofs.Fields.{length-field_bits}
use Rattle.bits.proofs.BitCursor.byte_align.Goals as goal

pub write_bits-requires : goal.write_bits-requires
write_bits-requires c = let l = length-field_bits (padding c.args.self.at) 0 in
    let r = c.requires in
    (omega arith, record { within = omega (arith, l, r.within); small = omega (arith, l, r.small) })
