-- `bits::bit_at`: the bit of its byte, which is 0 past the end. Assumes nothing.
use Prim.Native.Nat.{◌/◌}
use mathlib.Core.Path.{◌≡◌, refl}
use native.Mathlib.Omega.{arith}
use lib.ListN.{get_or}
use Rattle.std.proofs.lemmas.Grind.{common_steps}
use Rattle.bits.specs.Bits.{bit_at}
use Rattle.bits.proofs.Byte.{bit_of-lt}
use Rattle.bits.proofs.bit_at.Goals as goal

pub returns : goal.returns
unfolding bit_at
returns c =
    let byte : c.unwrap_or-byte.result ≡ get_or c.args.bytes.now (c.args.at / 8) 0 = grind (arith, common_steps) in
    rw (c.bit_of.ensures, byte) (refl, bit_of-lt _ _)
