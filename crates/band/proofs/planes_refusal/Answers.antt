-- `planes_refusal`: the first row that holds; row 1 passed over, the sides are small.
-- Assumes nothing.
use mathlib.Core.Path.{sym, ◌∙◌}
use Rattle.search.proofs.Rows.{small}
use Rattle.band.proofs.planes_refusal.Goals as goal

pub returns-then-too_large : goal.returns-then-too_large
returns-then-too_large c = rw (sym c.too_large.ensures ∙ c.if-too_large.true)

pub wrong_lengths-requires : goal.wrong_lengths-requires
wrong_lengths-requires c = let s = c.args.sides in
    small s.width s.height (sym c.too_large.ensures ∙ c.if-too_large.false)

pub returns-then-wrong_lengths : goal.returns-then-wrong_lengths
returns-then-wrong_lengths c = rw (sym c.too_large.ensures ∙ c.if-too_large.false, sym c.wrong_lengths.ensures ∙ c.if-wrong_lengths.true)

pub returns : goal.returns
returns c = rw (sym c.too_large.ensures ∙ c.if-too_large.false, sym c.wrong_lengths.ensures ∙ c.if-wrong_lengths.false)
