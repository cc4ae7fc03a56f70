-- `Reference::read_slots`: what is read so far, and what is left to read, are all.
-- Assumes nothing.
use Rattle.bits.specs.Bits.{bit_at}
use Rattle.grid.specs.Slots.{slots_of}
use Rattle.header_read.proofs.Slots.{SoFar}
use Rattle.header_read.proofs.Reference.read_slots.Given as goal

abbrev pub invariant-loop-i : goal.invariant-loop-i
invariant-loop-i l = let s = l.self in
    SoFar (bit_at s.header.now) s.flag s.prior.now l.gm_type s.first (slots_of l.gm_type) l.initial.next.at l.values l.next.at l.i
