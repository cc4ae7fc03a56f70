-- The sums that the fits take are the table's, and so exact.
-- Assumes nothing.
use Prim.Native.Nat.{ℕ, ◌≤◌}
use mathlib.Core.List.{List}
use lib.ListN.{length}
use Rattle.sample.specs.Word.{most_samples}
use Rattle.fit.specs.Sums.{translation_totals, rot_zoom_totals, affine_totals}
use Rattle.exact.specs.Words.{Words}
use Rattle.exact.specs.Table.{sum_u, sum_v, sum_x, sum_y, sum_xx, sum_xy, sum_yy, sum_xu, sum_yu, sum_xv, sum_yv, sum_q, sum_p1, sum_p2}
use Rattle.exact.specs.Matrices.{TranslationExact, RotZoomExact, AffineExact}
use Rattle.exact.proofs.Terms.{row-u, row-v, row-x, row-y, row-xx, row-xy, row-yy, row-xu, row-yu, row-xv, row-yv, row-q, row-p1, row-p2}
use Rattle.exact.proofs.Table.{exact}

module _ (ws : List ℕ) (words : Words ws) (few : length ws ≤ most_samples) where
  pub translation-exact : TranslationExact ws
  unfolding translation_totals
  translation-exact = record { su = exact sum_u row-u ws words few; sv = exact sum_v row-v ws words few }

  pub rotzoom-exact : RotZoomExact ws
  unfolding rot_zoom_totals
  rotzoom-exact =
      record {
        sx = exact sum_x row-x ws words few;
        sy = exact sum_y row-y ws words few;
        q = exact sum_q row-q ws words few;
        p1 = exact sum_p1 row-p1 ws words few;
        p2 = exact sum_p2 row-p2 ws words few;
        su = exact sum_u row-u ws words few;
        sv = exact sum_v row-v ws words few;
      }

  pub affine-exact : AffineExact ws
  unfolding affine_totals
  affine-exact =
      record {
        sx = exact sum_x row-x ws words few;
        sy = exact sum_y row-y ws words few;
        sxx = exact sum_xx row-xx ws words few;
        sxy = exact sum_xy row-xy ws words few;
        syy = exact sum_yy row-yy ws words few;
        sxu = exact sum_xu row-xu ws words few;
        syu = exact sum_yu row-yu ws words few;
        su = exact sum_u row-u ws words few;
        sxv = exact sum_xv row-xv ws words few;
        syv = exact sum_yv row-yv ws words few;
        sv = exact sum_v row-v ws words few;
      }
