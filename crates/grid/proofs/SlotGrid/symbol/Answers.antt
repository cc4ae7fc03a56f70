-- `SlotGrid::symbol`: its steps are those of `symbol_of`, over a sign and a magnitude.
-- Assumes nothing.
use mir.Syntax.{w64}
use mir.Facts.{to_z-of_z}
use Rattle.laws.proofs.Signed.{result-reads}
use Rattle.grid.specs.Symbols.{symbol_of}
use Rattle.grid.proofs.SlotGrid.symbol.Goals as goal

pub returns : goal.returns
unfolding symbol_of
returns c = let num = c.from_centre-num in
    rw (
      c.lift.ensures.is,
      c.is_negative.ensures,
      c.ordinal-ordinal.ensures.is,
      c.limit.ensures.is,
      c.magnitude.ensures,
      result-reads w64 num.result num.type_inv,
      num.ensures.is,
      to_z-of_z c.ranges.value,
    )
