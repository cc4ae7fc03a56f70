-- `read_from`: the bytes from the position's on read as all of them do.
-- Assumes nothing.
use Prim.Native.Nat.{ℕ, ◌/◌}
use mathlib.Core.List.{List}
use mathlib.Core.Path.{subst, ◌∙◌}
use native.Mathlib.Omega.{arith}
use lib.ListN.{drop}
use Rattle.laws.proofs.Placed.{tail-whole}
use Rattle.bits.specs.Bits.{bit_at}
use Rattle.header.specs.Reading.{references_read}
use Rattle.header_read.specs.Inner.{SevenIs}
use Rattle.header_read.proofs.Answers.{ended, from_byte}
use Rattle.header_read.proofs.read_from.Goals as goal

pub returns-then-header-byte : goal.returns-then-header-byte
returns-then-header-byte c = let a = c.args in
    ended a.header.now a.at a.flag a.prior.now c.if-header-byte.true

pub read_references-seven-requires : goal.read_references-seven-requires
read_references-seven-requires c = (c.requires, omega (arith, c.new.ensures))

pub answer-requires : goal.answer-requires
answer-requires c = (omega (arith, c.read_references-seven.ensures.next, c.new.ensures), omega (arith, c.read_references-seven.ensures.near, c.new.ensures))

pub returns : goal.returns
returns c = let e = c.before in
    let a = e.args in
    let seven = c.read_references-seven in
    let start = c.new in
    let tail = subst (λ (l : List ℕ). SevenIs seven.result (references_read (bit_at l) a.flag a.prior.now 7 0 start.result.at) start.result.at)
    (tail-whole (a.at / 8) a.header.now) seven.ensures in
    let read = subst (λ (k : ℕ). SevenIs seven.result (references_read (bit_at (drop (a.at / 8) a.header.now)) a.flag a.prior.now 7 0 k) k)
    start.ensures tail in
    c.answer.ensures
    ∙ from_byte a.header.now a.at a.flag a.prior.now e.requires (omega (arith, c.if-header-byte.false)) seven.result read
