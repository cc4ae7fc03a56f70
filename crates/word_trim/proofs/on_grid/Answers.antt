-- `word_trim::on_grid`: the numbers are those of the refit.
-- Assumes nothing.
use mathlib.Core.Path.{ap}
use lib.ListN.{length}
use Rattle.quantize.specs.declared.Quantized.{Quantized}
use Rattle.trim.specs.Inner.{model_as}
use Rattle.word_trim.proofs.on_grid.Goals as goal

pub returns : goal.returns
returns c = ap (λ (q : Quantized). model_as (length c.args.used.now) q) c.quantize_model-quantized.ensures
