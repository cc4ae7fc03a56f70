-- `subexp::encode_subexp`: a number of the first rung has its short code; the others are written by the rung that their code ends on. Assumes nothing.
use native.Mathlib.Omega.{arith}
use Rattle.bits.specs.Fields.{field_bits}
use Rattle.bits.proofs.Words.{room-first, room-second, wrote-two}
use Rattle.subexp.specs.Ladder.{subexp_bits}
use Rattle.subexp.proofs.Climbing.{first_code}
use Rattle.subexp.proofs.encode_subexp.Goals as goal

pub write_bits-next-requires : goal.write_bits-next-requires
write_bits-next-requires c = let a = c.args in
    let e = first_code a.num_syms a.v c.if-v-lt-FIRST_RUNG.true c.if-num_syms-gt-FIRST_REACH.true c.requires.1 in
    (omega arith, room-first 1 0 (field_bits 3 a.v) (subexp_bits a.num_syms a.v) e a.buffer.now a.cursor.at c.requires.2)

pub write_bits-requires : goal.write_bits-requires
write_bits-requires c = let a = c.args in
    let e = first_code a.num_syms a.v c.if-v-lt-FIRST_RUNG.true c.if-num_syms-gt-FIRST_REACH.true c.requires.1 in
    (omega arith, room-second 1 0 (field_bits 3 a.v) (subexp_bits a.num_syms a.v) e a.buffer.now a.cursor.at _ _ c.write_bits-next.ensures c.requires.2)

pub returns-then-num_syms-gt-FIRST_REACH : goal.returns-then-num_syms-gt-FIRST_REACH
returns-then-num_syms-gt-FIRST_REACH c = let a = c.args in
    let e = first_code a.num_syms a.v c.if-v-lt-FIRST_RUNG.true c.if-num_syms-gt-FIRST_REACH.true c.requires.1 in
    wrote-two 1 0 (field_bits 3 a.v) (subexp_bits a.num_syms a.v) e c.write_bits-next.ensures c.write_bits.ensures
