-- `quantize::refit_ends`: an accepted call says what the model's numbers ask.
-- Assumes nothing.
use Rattle.quantize.proofs.Accepted.{accepted}
use Rattle.fit.proofs.Types.{type_of-le}
use mathlib.Core.Path.{sym}
use Rattle.quantize.proofs.refit_ends.Goals as goal

pub mean_motion-requires : goal.mean_motion-requires
mean_motion-requires c = let e = c.args in
    (accepted e.t.fitted e.t.flag e.samples (sym c.in-Ok.ensures)).few

pub params_of-params-requires : goal.params_of-params-requires
params_of-params-requires c = let e = c.args in (
  rw c.type_of.ensures (type_of-le e.t.fitted),
  (accepted e.t.fitted e.t.flag e.samples (sym c.in-Ok.ensures)).flagged,
)
