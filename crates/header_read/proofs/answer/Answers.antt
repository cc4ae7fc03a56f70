-- `answer`: the bytes that the bits need are tested against those there are, as in the definition.
-- Assumes nothing.
use Prim.Native.Nat.{◌*◌}
use native.Mathlib.Omega.{arith}
use borrow.Author.Tests.{lt-ltb, le-ltb}
use Rattle.header_read.proofs.answer.Goals as goal

pub returns-then-bytes-end : goal.returns-then-bytes-end
returns-then-bytes-end c = let a = c.args in
    rw (lt-ltb (8 * a.bytes) a.seven.next.at (omega (arith, c.if-bytes-end.true)))

pub returns : goal.returns
returns c = rw (le-ltb (8 * c.args.bytes) c.args.seven.next.at (omega (arith, c.if-bytes-end.false)))
