-- `subexp::rung_of`: no climb goes past the last rung, nor past the one that begins with the number's highest bit. Assumes nothing.
use native.Mathlib.Omega.{arith}
use Rattle.subexp.proofs.Straight.{first-rung, four, by_length, by_last}
use Rattle.subexp.proofs.rung_of.Goals as goal

pub returns-then-v-lt-FIRST_RUNG : goal.returns-then-v-lt-FIRST_RUNG
returns-then-v-lt-FIRST_RUNG c = let a = c.args in
    first-rung a.num_syms a.v c.last_rung-last.result c.requires.0 c.requires.1 c.last_rung-last.ensures c.if-v-lt-FIRST_RUNG.true

pub overflow_sub-i : goal.overflow_sub-i
overflow_sub-i c = let a = c.args in
    omega (arith, four a.num_syms a.v c.last_rung-last.result c.requires.0 c.requires.1 c.last_rung-last.ensures c.bit_length-i.result c.bit_length-i.ensures.0 (omega arith))

pub returns-then-i-last : goal.returns-then-i-last
returns-then-i-last c = let a = c.args in
    by_length a.num_syms a.v c.last_rung-last.result c.requires.0 c.requires.1 c.last_rung-last.ensures c.bit_length-i.result c.bit_length-i.ensures.0 (omega arith) (omega arith)

pub returns-else-i-last : goal.returns-else-i-last
returns-else-i-last c = let a = c.args in
    by_last a.num_syms a.v c.last_rung-last.result c.requires.0 c.requires.1 c.last_rung-last.ensures c.bit_length-i.result c.bit_length-i.ensures.0 (omega arith) (omega arith)
