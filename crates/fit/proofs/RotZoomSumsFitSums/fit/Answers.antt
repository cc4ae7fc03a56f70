-- `fit::RotZoomSums::fit`: the model of the sums and their count.
-- Assumes nothing.
use mathlib.Core.Path.{ap, ◌∙◌}
use Rattle.fit.specs.Fitted.{rot_zoom_of}
use Rattle.fit.proofs.RotZoomSumsFitSums.fit.Goals as goal

pub returns : goal.returns
returns c = c.or_singular.ensures ∙ c.rotzoom_model.ensures ∙ ap (rot_zoom_of c.args.self) c.count_of.ensures
