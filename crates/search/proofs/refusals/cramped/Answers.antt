-- `cramped`: the one test is the one row.
-- Assumes nothing.
use mathlib.Core.Path.{sym, ◌∙◌}
use Rattle.search.proofs.refusals.cramped.Goals as goal

pub returns-then-too_short : goal.returns-then-too_short
returns-then-too_short c = rw (sym c.too_short.ensures ∙ c.if-too_short.true)

pub returns : goal.returns
returns c = rw (sym c.too_short.ensures ∙ c.if-too_short.false)
