-- `fit::affine_fit`: the sums are the definition's, and the fit is theirs.
-- Assumes nothing.
use Rattle.fit.specs.Fitted.{affine_from}
use Rattle.fit.proofs.affine_fit.Goals as goal

pub returns : goal.returns
unfolding affine_from
returns c = rw (← c.looked_up_sums.ensures) c.fit.ensures
