-- `lut_index`: an exponent above 8 takes the first arm, and what lies beyond the highest bit rounds to at most 256.
-- Assumes nothing.
use mathlib.Core.Path.{◌∙◌}
use native.Mathlib.Omega.{arith}
use Rattle.divisor.proofs.Rounding.{index-small, index_is}
use Rattle.divisor.proofs.lut_index.Goals as goal

pub returns : goal.returns
returns c = let d = c.args.d in
    let n = c.floor_log2-n in
    let rounded = rw c.wide_power.ensures at c.round2.ensures.is in
    record { is = rounded ∙ index_is n.result d n.ensures.range n.ensures.is; small = omega (arith, rounded, index-small n.result d n.ensures.range) }
