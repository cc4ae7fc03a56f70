use mathlib.Core.Path.{sym, ◌∙◌}
use lib.ListN.{length}
use native.Mathlib.Omega.{arith}
use Rattle.laws.proofs.Below.{found, ends}
use Rattle.models.specs.Models.{model_at, models_wrong}
use Rattle.models.proofs.models_wrong.Goals as goal

pub returns-then-model_wrong : goal.returns-then-model_wrong
unfolding models_wrong
returns-then-model_wrong c = sym (found (model_at c.args.types.now c.args.flag c.args.params.now) (length c.args.types.now) c.loop-k.k (omega arith) (sym c.model_wrong.ensures ∙ c.if-model_wrong.true))

pub returns : goal.returns
unfolding models_wrong
returns c = sym (ends (model_at c.args.types.now c.args.flag c.args.params.now) (length c.args.types.now) c.loop-k.k (omega arith) (omega arith) c.loop-k.invariant)
