-- `unfit`: each test is a row, in the table's order.
-- Assumes nothing.
use mathlib.Core.Path.{sym, ◌∙◌}
use Rattle.search.proofs.Rows.{small}
use Rattle.search.proofs.refusals.unfit.Goals as goal

pub returns-then-too_large : goal.returns-then-too_large
returns-then-too_large c = rw (sym c.too_large.ensures ∙ c.if-too_large.true)

pub wrong_length-requires : goal.wrong_length-requires
wrong_length-requires c = small c.args.sides.width c.args.sides.height (sym c.too_large.ensures ∙ c.if-too_large.false)

pub returns-then-wrong_length : goal.returns-then-wrong_length
returns-then-wrong_length c = rw ((sym c.too_large.ensures ∙ c.if-too_large.false), (sym c.wrong_length.ensures ∙ c.if-wrong_length.true))

pub returns-then-some_over : goal.returns-then-some_over
returns-then-some_over c = rw (
  (sym c.too_large.ensures ∙ c.if-too_large.false),
  (sym c.wrong_length.ensures ∙ c.if-wrong_length.false),
  (sym c.some_over.ensures ∙ c.if-some_over.true),
)

pub returns : goal.returns
returns c = rw (
  (sym c.too_large.ensures ∙ c.if-too_large.false),
  (sym c.wrong_length.ensures ∙ c.if-wrong_length.false),
  (sym c.some_over.ensures ∙ c.if-some_over.false),
)
