-- Every sum of the three fits' matrices and right sides, as the fits have it, stands for its whole-number sum over its power of two.
-- docs/RULES.md, 'Fits and score'.
-- Assumes nothing.
use Rattle.std.specs.Prelude.{ℕ, List, Float}
use Rattle.laws.specs.Stands.{Stands, sum_of}
use Rattle.fit.specs.Sums.{translation_sums, rot_zoom_sums, affine_sums}
use Rattle.exact.specs.Table.{Sum, sum_u, sum_v, sum_x, sum_y, sum_xx, sum_xy, sum_yy, sum_xu, sum_yu, sum_xv, sum_yv, sum_q, sum_p1, sum_p2}

-- x stands for the whole-number sum of a row
abbrev pub StandsFor : Sum → List ℕ → Float → Type 0
StandsFor r ws x = Stands r.scale (sum_of r.whole ws) x

pub record TranslationExact (ws : List ℕ) : Type 0 where
  pub su : StandsFor sum_u ws (translation_sums ws).su
  pub sv : StandsFor sum_v ws (translation_sums ws).sv

pub record RotZoomExact (ws : List ℕ) : Type 0 where
  pub sx : StandsFor sum_x ws (rot_zoom_sums ws).sx
  pub sy : StandsFor sum_y ws (rot_zoom_sums ws).sy
  pub q : StandsFor sum_q ws (rot_zoom_sums ws).q
  pub p1 : StandsFor sum_p1 ws (rot_zoom_sums ws).p1
  pub p2 : StandsFor sum_p2 ws (rot_zoom_sums ws).p2
  pub su : StandsFor sum_u ws (rot_zoom_sums ws).su
  pub sv : StandsFor sum_v ws (rot_zoom_sums ws).sv

pub record AffineExact (ws : List ℕ) : Type 0 where
  pub sx : StandsFor sum_x ws (affine_sums ws).sx
  pub sy : StandsFor sum_y ws (affine_sums ws).sy
  pub sxx : StandsFor sum_xx ws (affine_sums ws).sxx
  pub sxy : StandsFor sum_xy ws (affine_sums ws).sxy
  pub syy : StandsFor sum_yy ws (affine_sums ws).syy
  pub sxu : StandsFor sum_xu ws (affine_sums ws).sxu
  pub syu : StandsFor sum_yu ws (affine_sums ws).syu
  pub su : StandsFor sum_u ws (affine_sums ws).su
  pub sxv : StandsFor sum_xv ws (affine_sums ws).sxv
  pub syv : StandsFor sum_yv ws (affine_sums ws).syv
  pub sv : StandsFor sum_v ws (affine_sums ws).sv
