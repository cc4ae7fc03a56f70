-- `Header::write`: at each turn one reference more is written, or a run of identities, and at the end all.
-- Assumes nothing.
use Prim.Native.Nat.{◌-◌, ◌≤◌}
use Rattle.bits.proofs.Buffer.{Reached}
use Rattle.header.specs.Writing.{references_bits, header_bits}
use Rattle.header.proofs.Header.write.Given as goal

abbrev pub invariant-loop-r : goal.invariant-loop-r
invariant-loop-r l = let s = l.self in
    (l.r ≤ 7) × Reached l.initial.header l.initial.next.at (header_bits s.types.now s.params.now s.flag s.prior.now) l.header l.next.at (references_bits s.flag s.params.now s.prior.now s.types.now (7 - l.r) l.r)

abbrev pub decreases-loop-r : goal.decreases-loop-r
decreases-loop-r l = 7 - l.r
