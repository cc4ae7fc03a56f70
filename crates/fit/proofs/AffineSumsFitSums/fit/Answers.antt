-- `fit::AffineSums::fit`: the model of the sums and their count.
-- Assumes nothing.
use mathlib.Core.Path.{ap, ◌∙◌}
use Rattle.fit.specs.Fitted.{affine_of}
use Rattle.fit.proofs.AffineSumsFitSums.fit.Goals as goal

pub returns : goal.returns
returns c = c.or_singular.ensures ∙ c.affine_model.ensures ∙ ap (affine_of c.args.self) c.count_of.ensures
