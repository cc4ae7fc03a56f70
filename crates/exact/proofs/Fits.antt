-- Two lists in which each word stands equally often have the same fit of every type, by bits or refused alike: a fit takes the sums and the count, and each sum is one number.
-- Assumes nothing.
use Prim.Native.Nat.{ℕ, ◌≤◌}
use mathlib.Core.List.{List}
use mathlib.Core.Path.{◌≡◌}
use borrow.Author.Tests.{lt-ltb}
use lib.ListN.{length}
use Rattle.sample.specs.Word.{most_samples}
use Rattle.fit.specs.declared.Fitted.{Fitted}
use Rattle.fit.specs.declared.Fitted.TheVariants.{Refused}
use Rattle.fit.specs.Sums.{translation_totals, rot_zoom_totals, affine_totals, translation_sums, rot_zoom_sums, affine_sums}
use Rattle.fit.specs.Fitted.{translation_from, rot_zoom_from, affine_from, translation_fit, rot_zoom_fit, affine_fit, fit_of, fitted, fit_answer}
use Rattle.exact.specs.Words.{Words, SameWords}
use Rattle.exact.proofs.Counts.{same_length, same-or-refused}
use Rattle.exact.proofs.Terms.{row-u, row-v, row-x, row-y, row-xx, row-xy, row-yy, row-xu, row-yu, row-xv, row-yv, row-q, row-p1, row-p2}
use Rattle.exact.proofs.Table.{same_sum}

module _ {ws vs : List ℕ} (same : SameWords ws vs) (words : Words ws) where
  module _ (few : length ws ≤ most_samples) where
    pub same-translation-sums : translation_sums ws ≡ translation_sums vs
    unfolding translation_totals
    same-translation-sums = λ i. record { su = same_sum same words few _ row-u i; sv = same_sum same words few _ row-v i }

    pub same-rotzoom-sums : rot_zoom_sums ws ≡ rot_zoom_sums vs
    unfolding rot_zoom_totals
    same-rotzoom-sums =
        λ i.
        record {
          sx = same_sum same words few _ row-x i;
          sy = same_sum same words few _ row-y i;
          q = same_sum same words few _ row-q i;
          p1 = same_sum same words few _ row-p1 i;
          p2 = same_sum same words few _ row-p2 i;
          su = same_sum same words few _ row-u i;
          sv = same_sum same words few _ row-v i;
        }

    pub same-affine-sums : affine_sums ws ≡ affine_sums vs
    unfolding affine_totals
    same-affine-sums =
        λ i.
        record {
          sx = same_sum same words few _ row-x i;
          sy = same_sum same words few _ row-y i;
          sxx = same_sum same words few _ row-xx i;
          sxy = same_sum same words few _ row-xy i;
          syy = same_sum same words few _ row-yy i;
          sxu = same_sum same words few _ row-xu i;
          syu = same_sum same words few _ row-yu i;
          su = same_sum same words few _ row-u i;
          sxv = same_sum same words few _ row-xv i;
          syv = same_sum same words few _ row-yv i;
          sv = same_sum same words few _ row-v i;
        }

    pub same-translation : translation_fit ws ≡ translation_fit vs
    unfolding translation_from
    same-translation = rw (same_length same, same-translation-sums)

    pub same-rotzoom : rot_zoom_fit ws ≡ rot_zoom_fit vs
    unfolding rot_zoom_from
    same-rotzoom = rw (same_length same, same-rotzoom-sums)

    pub same-affine : affine_fit ws ≡ affine_fit vs
    unfolding affine_from
    same-affine = rw (same_length same, same-affine-sums)

    pub same-fit-of : (gm_type : ℕ) → fit_of gm_type ws ≡ fit_of gm_type vs
    same-fit-of gm_type = rw (same-translation, same-rotzoom, same-affine)

  -- for every type code and any length
  pub same-fit : (gm_type : ℕ) → fitted gm_type ws ≡ fitted gm_type vs
  same-fit gm_type =
      same-or-refused same (fitted gm_type) (Refused 1) (λ us h. rw (lt-ltb most_samples (length us) h)) (λ h. rw (same_length same, same-fit-of h gm_type))

  -- and each fit called by its name
  same_answer : (fit : List ℕ → Fitted) → (length ws ≤ most_samples → fit ws ≡ fit vs) → fit_answer (length ws) (fit ws) ≡ fit_answer (length vs) (fit vs)
  same_answer fit e =
      same-or-refused same (λ us. fit_answer (length us) (fit us)) (Refused 1) (λ us h. rw (lt-ltb most_samples (length us) h)) (λ h. rw (same_length same, e h))

  pub same-fit-translation : fit_answer (length ws) (translation_fit ws) ≡ fit_answer (length vs) (translation_fit vs)
  same-fit-translation = same_answer translation_fit same-translation

  pub same-fit-rotzoom : fit_answer (length ws) (rot_zoom_fit ws) ≡ fit_answer (length vs) (rot_zoom_fit vs)
  same-fit-rotzoom = same_answer rot_zoom_fit same-rotzoom

  pub same-fit-affine : fit_answer (length ws) (affine_fit ws) ≡ fit_answer (length vs) (affine_fit vs)
  same-fit-affine = same_answer affine_fit same-affine
