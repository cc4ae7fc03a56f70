-- The loop of the refit carries both sums; each is the fold of its own term.
-- Assumes nothing.
use mathlib.Core.List.{List}
use mathlib.Core.Path.{◌≡◌, refl}
use Rattle.laws.specs.Loops.{fold}
use Rattle.sample.specs.declared.MotionSample.{MotionSample}
use Rattle.fit.specs.Sums.{reading, sums_of, no_sums, translation_totals}
use Rattle.fit.proofs.Sums.{sums_apart}
use Rattle.score.specs.declared.ContinuousModel.{ContinuousModel}
use Rattle.quantize.specs.Quantize.{refit_totals}
use Rattle.quantize.specs.Inner.{refit_step}

pub refit-sums : {A : Type 0} (read : A → MotionSample) (m : ContinuousModel) (xs : List A) → fold (reading (refit_step m) read) xs (refit_totals m no_sums) ≡ refit_totals m (sums_of read xs)
unfolding refit_totals
refit-sums read m xs = sums_apart (refit_totals m) (refit_step m) read (λ start s. refl) xs no_sums

-- two sums of nothing, whatever their terms
pub refit-of-none : (m : ContinuousModel) → translation_totals no_sums ≡ refit_totals m no_sums
unfolding translation_totals refit_totals
refit-of-none m = refl
