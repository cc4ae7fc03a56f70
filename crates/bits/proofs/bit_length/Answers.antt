-- `bits::bit_length`: the zeros in front and the number's bits make 32. Assumes nothing.
use native.Mathlib.Omega.{arith}
use Rattle.bits.proofs.BitLength.{behind-zeros}
use Rattle.bits.proofs.bit_length.Goals as goal

pub returns : goal.returns
returns c = (behind-zeros c.args.n (omega arith), omega arith)
