-- `bits::store_byte`: all bits of the byte are the field's. Assumes nothing.
use mathlib.Core.Path.{sym}
use Prim.Native.Nat.{◌<◌, ◌^◌}
use Rattle.std.proofs.Common.{rules, get_or}
use Rattle.bits.proofs.Words.{put_byte}
use Rattle.bits.proofs.store_byte.Goals as goal

pub returns : goal.returns
returns c = let a = c.args in
    let byte : get_or a.buffer.now a.at 0 < 2 ^ 8 = search rules in
    rw c.low_byte.ensures (sym (put_byte a.buffer.now a.at c.requires byte a.word))
