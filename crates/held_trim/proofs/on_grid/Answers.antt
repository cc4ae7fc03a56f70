-- `held_trim::on_grid`: the numbers are those of the refit.
-- Assumes nothing.
use mathlib.Core.Path.{ap}
use Rattle.quantize.specs.declared.Quantized.{Quantized}
use Rattle.trim.specs.Inner.{model_as}
use Rattle.held_trim.proofs.on_grid.Goals as goal

pub refit_under-quantized-requires : goal.refit_under-quantized-requires
refit_under-quantized-requires c = c.requires

pub returns : goal.returns
returns c = ap (λ (q : Quantized). model_as c.args.used q) c.refit_under-quantized.ensures
