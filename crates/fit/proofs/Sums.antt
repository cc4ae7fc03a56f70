-- A loop that carries every sum of a fit gives each sum as a fold of its own term: a sample moves each of them by itself.
-- Assumes nothing.
use mathlib.Core.List.{List, [], ◌∷◌}
use mathlib.Core.Path.{◌≡◌, refl, ap, ◌∙◌}
use Rattle.laws.specs.Loops.{fold}
use Rattle.sample.specs.declared.MotionSample.{MotionSample}
use Rattle.fit.specs.Sums.{reading, plus, Summing, sums_of, no_sums, translation_totals, rot_zoom_totals, affine_totals}
use Rattle.fit.specs.Inner.{translation_step, rot_zoom_step, affine_step}

-- any sums, a step that adds a sample's term to each of them, and any way to read a sample
module _ {A S : Type 0} (totals : Summing → S) (step : S → MotionSample → S) (read : A → MotionSample)
    (moves : (start : Summing) (s : MotionSample) → step (totals start) s ≡ totals (λ term. plus term (start term) s)) where
  pub sums_apart : (xs : List A) (start : Summing)
      → fold (reading step read) xs (totals start) ≡ totals (λ term. fold (plus (λ x. term (read x))) xs (start term))
  sums_apart [] start = refl
  sums_apart (x ∷ xs) start =
      ap (fold (reading step read) xs) (moves start (read x)) ∙ sums_apart xs (λ term. plus term (start term) (read x))

-- the sums of a fit, folded as the library folds
module _ {S : Type 0} (totals : Summing → S) (step : S → MotionSample → S)
    (moves : (start : Summing) (s : MotionSample) → step (totals start) s ≡ totals (λ term. plus term (start term) s)) where
  pub sums-folded : {A : Type 0} (read : A → MotionSample) (xs : List A) → fold (reading step read) xs (totals no_sums) ≡ totals (sums_of read xs)
  sums-folded read xs = sums_apart totals step read moves xs no_sums

module _ {A : Type 0} (read : A → MotionSample) (xs : List A) where
  pub translation-sums : fold (reading translation_step read) xs (translation_totals no_sums) ≡ translation_totals (sums_of read xs)
  unfolding translation_totals
  translation-sums = sums_apart translation_totals translation_step read (λ start s. refl) xs no_sums

  pub rot_zoom-sums : fold (reading rot_zoom_step read) xs (rot_zoom_totals no_sums) ≡ rot_zoom_totals (sums_of read xs)
  unfolding rot_zoom_totals
  rot_zoom-sums = sums_apart rot_zoom_totals rot_zoom_step read (λ start s. refl) xs no_sums

  pub affine-sums : fold (reading affine_step read) xs (affine_totals no_sums) ≡ affine_totals (sums_of read xs)
  unfolding affine_totals
  affine-sums = sums_apart affine_totals affine_step read (λ start s. refl) xs no_sums
