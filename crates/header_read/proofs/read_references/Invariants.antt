-- `read_references`: what is read so far, followed by what is left to read, is all seven.
-- Assumes nothing.
use Rattle.bits.specs.Bits.{bit_at}
use Rattle.header_read.proofs.References.{SoFar}
use Rattle.header_read.proofs.read_references.Given as goal

abbrev pub invariant-loop-r : goal.invariant-loop-r
invariant-loop-r l = SoFar (bit_at l.header) l.flag l.prior l.initial.next.at l.types l.params l.next.at l.r
