-- `subexp::decode_unsigned_subexp_with_ref`: what is read is a code number below S, and so has a symbol. Assumes nothing.
use native.Mathlib.Omega.{arith}
use Rattle.bits.specs.Bits.{bit_at}
use Rattle.bits.proofs.Buffer.{bit_at_lt}
use Rattle.subexp.proofs.Coefficient.{subexp-again}
use Rattle.subexp.proofs.decode_unsigned_subexp_with_ref.Goals as goal

pub symbol_of-requires : goal.symbol_of-requires
symbol_of-requires c = let a = c.args in
    (omega arith, omega (arith, c.decode_subexp-read.ensures.value, (subexp-again (bit_at a.bytes.now) (bit_at_lt a.bytes.now) a.mx (omega arith) a.cursor.at).within), omega arith)
