-- `bits::store_front`: the field's bits stand in front, and those behind them are the byte's own. Assumes nothing.
use mathlib.Core.Path.{sym}
use Prim.Native.Nat.{◌<◌, ◌^◌}
use Rattle.std.proofs.Common.{rules, get_or}
use Rattle.bits.proofs.Words.{put_front}
use Rattle.bits.proofs.store_front.Goals as goal

pub returns : goal.returns
returns c = let a = c.args in
    let byte : get_or a.buffer.now a.at 0 < 2 ^ 8 = search rules in
    rw c.with_front.ensures (sym (put_front a.buffer.now a.at c.requires.1 byte a.k a.word c.requires.0))
