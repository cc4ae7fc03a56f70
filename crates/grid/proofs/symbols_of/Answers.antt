-- `symbols_of`: the grid is the slot's, and a prior in range has its place there. Assumes nothing.
use mir.Facts.{to_z-of_z}
use mathlib.Core.Path.{◌≡◌, sym, ◌∙◌}
use native.Mathlib.Omega.{arith}
use lib.Pow.{pow_mono}
use Rattle.grid.specs.Grid.{abs_bits}
use Rattle.grid.specs.Symbols.{symbols, place}
use Rattle.grid.proofs.Symbols.{row-place-below, row-place-code}
use Rattle.grid.proofs.Table.{abs_bits-range}
use Rattle.grid.proofs.symbols_of.Goals as goal

pub returns : goal.returns
returns c = let a = c.args in
    let grid = c.of-grid.ensures in
    let m : c.symbols.result ≡ symbols (abs_bits a.gm_type a.flag a.slot) = rw grid.abs at c.symbols.ensures in
    let s : c.place.result ≡ place a.gm_type a.flag a.slot a.prior =
    (rw (grid.abs, grid.prec, grid.round, to_z-of_z c.ranges.prior) at c.place.ensures)
    ∙ sym (row-place-code a.gm_type a.flag a.slot a.prior c.requires.within) in
    record {
      mx = m;
      stands = s;
      below = omega (arith, s, m, row-place-below a.gm_type a.flag a.slot a.prior c.requires.within);
      few = omega (arith, m, pow_mono (abs_bits-range a.gm_type a.flag a.slot).1);
    }
