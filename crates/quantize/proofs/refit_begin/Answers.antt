-- `quantize::refit_begin`: the linear part is the definition's, and the sums are of nothing.
-- Assumes nothing.
use mathlib.Core.Path.{◌∙◌}
use Rattle.quantize.proofs.Leftover.{refit-of-none}
use Rattle.quantize.proofs.refit_begin.Goals as goal

pub returns : goal.returns
returns c = let m = c.continuous_linear-m in
    rw (c.begin-sums.ensures ∙ refit-of-none m.result, m.ensures, c.linear_unless_refused-linear.ensures)
