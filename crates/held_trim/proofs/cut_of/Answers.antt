-- `held_trim::cut_of`: a refused fit answers its number, and any other the samples that it used.
-- Assumes nothing.
use borrow.Author.Tests.{ne_eqb}
use Rattle.held_trim.proofs.cut_of.Goals as goal

pub returns-then-own-ne0 : goal.returns-then-own-ne0
returns-then-own-ne0 c = rw (← c.refusal_of-own.ensures, ne_eqb _ 0 c.if-own-ne0.true) c.refused_cut.ensures

pub returns : goal.returns
returns c = rw (← c.refusal_of-own.ensures, c.if-own-ne0.false)
