-- `score::mean_of`: no samples give 0.0, and others the mean.
-- Assumes nothing.
use borrow.Author.Tests.{eq-eqb, ne_eqb}
use Rattle.score.proofs.mean_of.Goals as goal

pub returns-then-samples-eq0 : goal.returns-then-samples-eq0
returns-then-samples-eq0 c = rw (eq-eqb _ _ c.if-samples-eq0.true)

pub returns : goal.returns
returns c = rw (ne_eqb _ _ c.if-samples-eq0.false, ← c.count_of.ensures)
