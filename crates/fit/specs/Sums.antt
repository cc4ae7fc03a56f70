-- The sums of the three fits: each one a fold of one term per sample, first to last, one rounding for each addition.
-- docs/RULES.md, 'Fits and score'.
-- Assumes nothing.
use Rattle.std.specs.Prelude.{ℕ, List, pos, length, Float}
use Rattle.std.specs.Float.{binary64}
use Rattle.std.specs.Float.Ieee.{of_int}
use Rattle.laws.specs.Loops.{fold}
use Rattle.laws.specs.Binary64.{◌⊕◌, ◌⊖◌, ◌⊗◌, nought}
use Rattle.sample.specs.declared.MotionSample.{MotionSample}
use Rattle.sample.specs.Sample.{sample_of}
use Rattle.fit.specs.declared.TranslationSums.{TranslationSums}
use Rattle.fit.specs.declared.RotZoomSums.{RotZoomSums}
use Rattle.fit.specs.declared.AffineSums.{AffineSums}

-- a step over elements that stand for samples
abbrev pub reading : {A S : Type 0} → (S → MotionSample → S) → (A → MotionSample) → S → A → S
reading step read s x = step s (read x)

-- a list of samples is read as it stands
abbrev pub itself : MotionSample → MotionSample
itself s = s

-- one addition of a sum
abbrev pub plus : {A : Type 0} → (A → Float) → Float → A → Float
plus term a x = a ⊕ term x

-- the sum of a term over a list
abbrev pub total : {A : Type 0} → (A → Float) → List A → Float
total term xs = fold (plus term) xs nought

-- a sum of a sample's term over all samples
abbrev pub Summing : Type 0
Summing = (MotionSample → Float) → Float

-- the sums over a list whose elements are read as samples
abbrev pub sums_of : {A : Type 0} → (A → MotionSample) → List A → Summing
sums_of read xs term = total (λ x. term (read x)) xs

-- of no samples
abbrev pub no_sums : Summing
no_sums term = nought

-- the terms, by the names of their sums
abbrev pub su : MotionSample → Float
su s = s.u

abbrev pub sv : MotionSample → Float
sv s = s.v

abbrev pub sx : MotionSample → Float
sx s = s.x

abbrev pub sy : MotionSample → Float
sy s = s.y

abbrev pub sxx : MotionSample → Float
sxx s = s.x ⊗ s.x

abbrev pub sxy : MotionSample → Float
sxy s = s.x ⊗ s.y

abbrev pub syy : MotionSample → Float
syy s = s.y ⊗ s.y

abbrev pub sxu : MotionSample → Float
sxu s = s.x ⊗ s.u

abbrev pub syu : MotionSample → Float
syu s = s.y ⊗ s.u

abbrev pub sxv : MotionSample → Float
sxv s = s.x ⊗ s.v

abbrev pub syv : MotionSample → Float
syv s = s.y ⊗ s.v

abbrev pub q : MotionSample → Float
q s = s.x ⊗ s.x ⊕ s.y ⊗ s.y

abbrev pub p1 : MotionSample → Float
p1 s = s.x ⊗ s.u ⊕ s.y ⊗ s.v

abbrev pub p2 : MotionSample → Float
p2 s = s.y ⊗ s.u ⊖ s.x ⊗ s.v

-- so many samples, as a binary64
abbrev pub count_as : ℕ → Float
count_as samples = of_int binary64 (pos samples)

abbrev pub count_of : List ℕ → Float
count_of ws = count_as (length ws)

-- every sum of a fit
unfoldable pub translation_totals : Summing → TranslationSums
translation_totals sum = record { su = sum su; sv = sum sv }

unfoldable pub rot_zoom_totals : Summing → RotZoomSums
rot_zoom_totals sum =
    record {
      sx = sum sx;
      sy = sum sy;
      q = sum q;
      p1 = sum p1;
      p2 = sum p2;
      su = sum su;
      sv = sum sv;
    }

unfoldable pub affine_totals : Summing → AffineSums
affine_totals sum =
    record {
      sx = sum sx;
      sy = sum sy;
      sxx = sum sxx;
      sxy = sum sxy;
      syy = sum syy;
      sxu = sum sxu;
      syu = sum syu;
      su = sum su;
      sxv = sum sxv;
      syv = sum syv;
      sv = sum sv;
    }

-- of a list of words
abbrev pub translation_sums : List ℕ → TranslationSums
translation_sums ws = translation_totals (sums_of sample_of ws)

abbrev pub rot_zoom_sums : List ℕ → RotZoomSums
rot_zoom_sums ws = rot_zoom_totals (sums_of sample_of ws)

abbrev pub affine_sums : List ℕ → AffineSums
affine_sums ws = affine_totals (sums_of sample_of ws)
