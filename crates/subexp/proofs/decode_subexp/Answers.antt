-- `subexp::decode_subexp`: four bits below eight are a code of the first rung; the others go by the ladder. Assumes nothing.
use Prim.Native.Nat.{◌<◌}
use mathlib.Core.Path.{◌∙◌}
use native.Mathlib.Omega.{arith}
use Rattle.bits.specs.Bits.{bit_at}
use Rattle.bits.specs.Fields.{field}
use Rattle.subexp.proofs.Climbing.{first_read}
use Rattle.subexp.proofs.decode_subexp.Goals as goal

pub returns-then-first-lt-FIRST_RUNG : goal.returns-then-first-lt-FIRST_RUNG
returns-then-first-lt-FIRST_RUNG c = let a = c.args in
    let f = c.f-first in
    let more : 24 < a.num_syms = omega arith in
    let near : field (bit_at a.bytes.now) a.cursor.at 4 < 8 = omega (arith, f.ensures.value, c.if-first-lt-FIRST_RUNG.true) in
    let e = first_read (bit_at a.bytes.now) a.num_syms a.cursor.at more near in
    record { value = f.ensures.value ∙ e.0; next = f.ensures.next ∙ e.1 }
