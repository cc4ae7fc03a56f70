-- `symbol_of`: the grid is the slot's, and each symbol is below their count. Assumes nothing.
use mir.Facts.{to_z-of_z}
use mathlib.Core.Path.{refl}
use Rattle.grid.proofs.Symbols.{symbol-below}
use Rattle.grid.proofs.symbol_of.Goals as goal

pub returns : goal.returns
returns c =
    rw (c.symbol.ensures, c.of.ensures.abs, c.of.ensures.prec, c.of.ensures.round, to_z-of_z c.ranges.value)
    (record { is = refl; below = symbol-below _ _ _ _ })
