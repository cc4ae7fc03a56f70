-- `coarse_eight`: where none of the eight is below the best they only add their rows.
-- Assumes nothing.
use Rattle.stage.proofs.NoneWins.{eight-lose, laned}
use native.Mathlib.Omega.{arith}
use Rattle.coarse.proofs.coarse_eight.Goals as goal

pub eight_offsets-starts-requires : goal.eight_offsets-starts-requires
eight_offsets-starts-requires c = record { y_bound = (c.requires.beside.row, omega (arith, c.requires.beside.columns)); columns = c.requires.spread.column_costs }

pub sad_half-counted-requires : goal.sad_half-counted-requires
sad_half-counted-requires c = let p = c.requires in record { laned = laned p.coarse p.spread.same c.requires.beside; if_low = p.spread.spread_low; if_low_2 = p.spread.window_low; starts = record { each = c.eight_offsets-starts.ensures.small } }

pub overflow_add-result : goal.overflow_add-result
overflow_add-result c = omega (arith, c.sad_half-counted.ensures.few, c.requires.rows_bound)

pub returns-then-counted-eq0 : goal.returns-then-counted-eq0
returns-then-counted-eq0 c = let a = c.args in
    let p = c.requires in
    eight-lose a.block.now a.window.now a.spread.now a.best a.y a.x p.coarse.pels p.spread.same p.beside c.eight_offsets-starts.ensures c.sad_half-counted.ensures c.if-counted-eq0.true

pub coarse_ones-requires : goal.coarse_ones-requires
coarse_ones-requires c = record { coarse = c.requires.coarse; y_bound = (c.requires.beside.row, omega arith); to_bound = (omega (arith, c.requires.beside.columns), c.requires.rows_bound) }

pub returns : goal.returns
returns c = record { same = c.coarse_ones.ensures.same; few = omega (arith, c.coarse_ones.ensures.few) }
