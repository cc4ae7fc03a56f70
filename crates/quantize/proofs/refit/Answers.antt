-- `quantize::refit`: the two sums are those of the linear part, and their mean is the answer.
-- Assumes nothing.
use Rattle.quantize.specs.Quantize.{refitted_from}
use Rattle.quantize.proofs.refit.Goals as goal

pub returns : goal.returns
unfolding refitted_from
returns c = rw (← c.continuous_linear.ensures, ← c.refit_sums.ensures) c.mean_motion.ensures
