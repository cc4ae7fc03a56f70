-- `bench_placing::one_by_one`: what is left to put here gives what was to be put at the start. Assumes nothing.
use Prim.Native.Nat.{◌+◌, ◌≤◌}
use mathlib.Core.Path.{◌≡◌}
use lib.ListN.{length}
use Rattle.bits.specs.Bits.{put_bits}
use Rattle.bits.specs.Fields.{field_bits}
use Rattle.bench_placing.proofs.one_by_one.Given as goal

abbrev pub invariant-loop-k : goal.invariant-loop-k
invariant-loop-k l = (l.k ≤ l.n)
    × (l.next.at + l.k ≡ l.initial.next.at + l.n)
    × (length l.buffer ≡ length l.initial.buffer)
    × (put_bits l.buffer l.next.at (field_bits l.k l.value) ≡ put_bits l.initial.buffer l.initial.next.at (field_bits l.n l.value))
