-- `rows_refusal`: the first row that holds; row 5 passed over, the band is there.
-- Assumes nothing.
use mathlib.Core.Path.{sym, ◌∙◌}
use native.Mathlib.Omega.{arith}
use borrow.Author.Tests.{lt-ltb, le-ltb}
use Rattle.search.specs.Band.{band_count}
use Rattle.search.proofs.Rows.{count_small}
use Rattle.search.proofs.Bands.{band-few}
use Rattle.band.proofs.Accepted.{there}
use Rattle.band.proofs.rows_refusal.Goals as goal

pub returns-then-not_there : goal.returns-then-not_there
returns-then-not_there c = rw (sym c.not_there.ensures ∙ c.if-not_there.true)

pub overflow_sub-end : goal.overflow_sub-end
overflow_sub-end c = let a = c.args in
    (there a.sides.height a.first a.end (sym c.not_there.ensures ∙ c.if-not_there.false)).0

pub overflow_mul-end : goal.overflow_mul-end
overflow_mul-end c = let a = c.args in
    let e = (there a.sides.height a.first a.end (sym c.not_there.ensures ∙ c.if-not_there.false)).1 in
    omega (
      arith,
      band-few a.sides.width a.sides.height a.first a.end e,
      count_small a.sides.width a.sides.height c.requires.narrow c.requires.low,
    )

pub returns-then-words-end : goal.returns-then-words-end
returns-then-words-end c = let a = c.args in
    rw (sym c.not_there.ensures ∙ c.if-not_there.false, lt-ltb a.words (band_count a.sides.width a.first a.end) c.if-words-end.true)

pub returns : goal.returns
returns c = let a = c.args in
    rw (sym c.not_there.ensures ∙ c.if-not_there.false, le-ltb a.words (band_count a.sides.width a.first a.end) c.if-words-end.false)
