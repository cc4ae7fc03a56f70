-- `quantize::linear_unless_refused`: a flag in range has the definition's linear part.
-- Assumes nothing.
use borrow.Author.Tests.{lt-ltb, le-ltb}
use Rattle.quantize.specs.Inner.{linear_unless_refused}
use Rattle.quantize.proofs.linear_unless_refused.Goals as goal

pub returns-then-flag-gt1 : goal.returns-then-flag-gt1
unfolding linear_unless_refused
returns-then-flag-gt1 c = rw (lt-ltb _ _ c.if-flag-gt1.true) c.identity_linear.ensures

pub returns : goal.returns
unfolding linear_unless_refused
returns c = rw (le-ltb _ _ c.if-flag-gt1.false) c.linear_of.ensures
