-- `div_lut`: the table follows its rule.
-- Assumes nothing.
use native.Mathlib.Omega.{arith}
use Rattle.divisor.proofs.DivLut.{table-follows, entry-small}
use Rattle.divisor.proofs.table.div_lut.Goals as goal

pub returns : goal.returns
returns c = let i = c.args.index in
    let follows = table-follows i c.requires in record { is = follows; small = omega (arith, follows, entry-small i) }
