-- `bits::with_bit`: the old bit's weight is taken away, the new one's is added. Assumes nothing.
use mathlib.Core.Path.{◌≡◌}
use Prim.Native.Nat.{◌+◌, ◌-◌, ◌*◌}
use native.Mathlib.Omega.{arith}
use Rattle.bits.specs.Bits.{with_bit}
use Rattle.bits.proofs.Byte.{with_bit-is, with_bit-byte}
use Rattle.bits.proofs.with_bit.Goals.{After-bit_of}
use Rattle.bits.proofs.with_bit.Goals as goal

whole : (c : After-bit_of) → c.args.x - c.bit_of.result * c.power-weight.result + c.args.b * c.power-weight.result ≡ with_bit c.args.x c.args.k c.args.b
whole c = rw (c.bit_of.ensures, c.power-weight.ensures) (with_bit-is c.args.x c.args.k c.args.b)

pub overflow_cast-result : goal.overflow_cast-result
overflow_cast-result c = record { fits = rw (whole c) (with_bit-byte c.args.x c.args.k c.args.b (omega arith) (omega arith) (omega arith)) }

pub returns : goal.returns
returns c = whole c
