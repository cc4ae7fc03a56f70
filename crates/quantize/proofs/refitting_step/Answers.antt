-- `quantize::refitting_step`: both sums take the sample's terms, and all else stays.
-- Assumes nothing.
use Rattle.quantize.proofs.refitting_step.Goals as goal

pub returns : goal.returns
returns c = rw c.refit_step-sums.ensures
