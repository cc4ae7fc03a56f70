-- `fit::TranslationSums::begin`: each sum of nothing.
-- Assumes nothing.
use mathlib.Core.Path.{refl}
use Rattle.fit.specs.Sums.{translation_totals}
use Rattle.fit.proofs.TranslationSumsFitSums.begin.Goals as goal

pub returns : goal.returns
unfolding translation_totals
returns c = refl
