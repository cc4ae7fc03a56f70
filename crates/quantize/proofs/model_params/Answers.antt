-- `quantize::model_params`: the linear part goes into the refit and into the model.
-- Assumes nothing.
use Rattle.fit.proofs.Types.{type_of-le}
use native.Mathlib.Omega.{arith}
use Rattle.quantize.specs.Quantize.{params_from}
use Rattle.quantize.proofs.model_params.Goals as goal

pub params_of-requires : goal.params_of-requires
params_of-requires c = let entry = c.before in
    (omega (arith, c.type_of.ensures, type_of-le entry.args.fitted), entry.requires.flagged)

pub returns : goal.returns
unfolding params_from
returns c = rw (← c.type_of.ensures, ← c.linear_of-l.ensures, ← c.refit.ensures) c.params_of.ensures
