-- `subexp::rungs_read`: the climb chooses the definition's arm, and what is read counts from the rung's start. Assumes nothing.
use Prim.Native.Nat.{◌-◌}
use native.Mathlib.Omega.{arith}
use lib.Pow.{pow_mono}
use Rattle.bits.specs.Bits.{bit_at}
use Rattle.bits.proofs.Buffer.{bit_at_lt}
use Rattle.bits.proofs.Fields.{field_lt}
use Rattle.bits.proofs.Ns.{ns-lt}
use Rattle.subexp.proofs.rungs_read.Goals as goal

pub from_start-requires : goal.from_start-requires
from_start-requires c = let a = c.args in
    let climb = c.climb-i in
    let rung-start = c.rung_start-mk in
    omega (
      arith,
      climb.ensures.below,
      rung-start.ensures.0,
      c.ns.ensures.value,
      ns-lt (bit_at a.bytes.now) (bit_at_lt a.bytes.now)
          climb.result.next.at (a.num_syms - rung-start.result) (omega (arith, climb.ensures.below, rung-start.ensures.0)),
    )

pub from_start-requires-2 : goal.from_start-requires-2
from_start-requires-2 c = let a = c.args in
    let climb = c.climb-i in
    omega (
      arith,
      climb.ensures.below,
      c.rung_start-mk.ensures.0,
      c.f.ensures.value,
      field_lt (bit_at a.bytes.now)
          (bit_at_lt a.bytes.now) climb.result.next.at c.rung_bits.result,
      pow_mono c.rung_bits.ensures.1,
    )
