-- `bits::store_word`: what is left to put here gives what was to be put at the start. Assumes nothing.
use Prim.Native.Nat.{◌+◌, ◌*◌, ◌≤◌}
use mathlib.Core.Path.{◌≡◌}
use lib.ListN.{length}
use Rattle.bits.specs.Bits.{put_bits}
use Rattle.bits.specs.Fields.{field_bits}
use Rattle.bits.proofs.store_word.Given as goal

abbrev pub invariant-loop-left : goal.invariant-loop-left
invariant-loop-left l = (l.left ≤ l.n)
    × (8 * l.at + l.left ≡ 8 * l.first + l.n)
    × (length l.buffer ≡ length l.initial.buffer)
    × (put_bits l.buffer (8 * l.at) (field_bits l.left l.word) ≡ put_bits l.initial.buffer (8 * l.first) (field_bits l.n l.word))

abbrev pub decreases-loop-left : goal.decreases-loop-left
decreases-loop-left l = l.left
