-- `fit::rotzoom_fit`: the sums are the definition's, and the fit is theirs.
-- Assumes nothing.
use Rattle.fit.specs.Fitted.{rot_zoom_from}
use Rattle.fit.proofs.rotzoom_fit.Goals as goal

pub returns : goal.returns
unfolding rot_zoom_from
returns c = rw (← c.looked_up_sums.ensures) c.fit.ensures
