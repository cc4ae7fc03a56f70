-- `bits::store_inside`: the byte holds the field in its place, and what stands above and below stays. Assumes nothing.
use Prim.Native.Nat.{◌-◌}
use mathlib.Core.Path.{sym}
use native.Mathlib.Omega.{arith}
use Rattle.bits.proofs.Words.{put-inside}
use Rattle.bits.proofs.store_inside.Goals as goal

pub returns : goal.returns
returns c = let e = c.before in
    let a = e.args in
    rw c.with_inside.ensures (sym (put-inside a.buffer.now a.at a.used a.n a.value (8 - a.used - a.n) (omega arith) e.requires.1))
