-- `quantize::quantize_model`: an accepted call says what the model's numbers ask.
-- Assumes nothing.
use Rattle.quantize.proofs.Accepted.{accepted}
use lib.ListN.{length}
use mathlib.Core.Path.{sym}
use Rattle.quantize.proofs.quantize_model.Goals as goal

pub model_params-params-requires : goal.model_params-params-requires
model_params-params-requires c = let a = c.args in
    accepted a.fitted a.flag (length a.words.now) (sym c.in-Ok.ensures)
