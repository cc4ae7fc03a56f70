-- `trim::least_of`: the tests of the type code are the definition's, in its order.
-- Assumes nothing.
use borrow.Author.Tests.{eq-eqb, ne_eqb}
use Rattle.trim.proofs.least_of.Goals as goal

pub returns-then-gm_type-eq-TRANSLATION : goal.returns-then-gm_type-eq-TRANSLATION
returns-then-gm_type-eq-TRANSLATION c = rw (eq-eqb _ _ c.if-gm_type-eq-TRANSLATION.true)

pub returns-then-gm_type-eq-ROTZOOM : goal.returns-then-gm_type-eq-ROTZOOM
returns-then-gm_type-eq-ROTZOOM c = rw (ne_eqb _ _ c.if-gm_type-eq-TRANSLATION.false, eq-eqb _ _ c.if-gm_type-eq-ROTZOOM.true)

pub returns : goal.returns
returns c = rw (ne_eqb _ _ c.if-gm_type-eq-TRANSLATION.false, ne_eqb _ _ c.if-gm_type-eq-ROTZOOM.false)
