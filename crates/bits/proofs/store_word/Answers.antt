use Prim.Native.Nat.{◌-◌, ◌*◌, ◌/◌, ◌^◌}
use mathlib.Core.Path.{◌∙◌, ap}
use native.Mathlib.Omega.{arith}
use lib.ListN.{length}
use Rattle.bits.specs.Fields.{field_bits}
use Rattle.bits.proofs.Buffer.{length-put_bits}
use Rattle.bits.proofs.Words.{byte_step}
use Rattle.bits.proofs.store_word.Goals as goal

pub loop-left-preserved : goal.loop-left-preserved
loop-left-preserved c = let a = c.args in
    let loop = c.loop-left in
    let e = c.store_byte.ensures in
    let inv = loop.invariant in (
      omega arith,
      omega arith,
      ap length e ∙ length-put_bits loop.buffer (8 * loop.at) (field_bits 8 (a.word / 2 ^ (loop.left - 8))) ∙ inv.2,
      byte_step loop.buffer loop.at loop.left a.word c.loop-left-test.true e inv.3,
    )
