-- `fit::translation_fit`: the sums are the definition's, and the fit is theirs.
-- Assumes nothing.
use Rattle.fit.specs.Fitted.{translation_from}
use Rattle.fit.proofs.translation_fit.Goals as goal

pub returns : goal.returns
unfolding translation_from
returns c = rw (← c.sums_of.ensures) c.fit.ensures
