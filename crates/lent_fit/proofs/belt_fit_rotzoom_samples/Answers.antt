-- `lent_fit::belt_fit_rotzoom_samples`: the fit of the samples, as numbers.
-- Assumes nothing.
use mathlib.Core.Path.{ap, ◌∙◌}
use Rattle.fit.specs.Fitted.{rot_zoom_from}
use Rattle.fit_numbers.specs.Numbers.{numbers_of}
use Rattle.lent_fit.proofs.belt_fit_rotzoom_samples.Goals as goal

pub returns : goal.returns
unfolding rot_zoom_from
returns c = c.numbers_of.ensures ∙ ap numbers_of c.fit_lent.ensures
