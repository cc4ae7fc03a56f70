-- The three fits of a list whose elements are read as samples, their refusals, and the number and values of each case
-- of the answer.
-- docs/RULES.md, 'Model' and 'Fits and score'.
-- Assumes nothing.
use Rattle.std.specs.Prelude.{ℕ, Bool, List, [], ◌∷◌, ltb, eqb, length, get_or, Float}
use Rattle.std.specs.Float.{nan}
use Rattle.std.specs.Float.Ieee.{neg}
use Rattle.laws.specs.Refusal.{row, judge, or_else, choose, either}
use Rattle.laws.specs.Call.{answered}
use Rattle.laws.specs.Binary64.{◌⊕◌, ◌⊘◌, nought, one}
use Rattle.sample.specs.declared.MotionSample.{MotionSample}
use Rattle.sample.specs.Word.{most_samples}
use Rattle.sample.specs.Sample.{sample_of}
use Rattle.solve.specs.Elimination.{System, unless_singular}
use Rattle.solve.specs.Solution.{Solution, solved, number_of}
use Rattle.fit.specs.declared.Fitted.{Fitted}
use Rattle.fit.specs.declared.Fitted.TheVariants.{Refused, Translation, RotZoom, Affine}
use Rattle.fit.specs.declared.TranslationSums.{TranslationSums}
use Rattle.fit.specs.declared.RotZoomSums.{RotZoomSums}
use Rattle.fit.specs.declared.AffineSums.{AffineSums}
use Rattle.fit.specs.Sums.{Summing, sums_of, count_as, translation_totals, rot_zoom_totals, affine_totals}

-- the number of docs/RULES.md of each case: its refusal, 0 for a fitted model
abbrev pub refusal_of : Fitted → ℕ
refusal_of (Refused n) = n
refusal_of (Translation m0 m1) = 0
refusal_of (RotZoom m0 m1 m2 m3) = 0
refusal_of (Affine m0 m1 m2 m3 m4 m5) = 0

-- the type code of each case, 0 for a refusal
abbrev pub type_of : Fitted → ℕ
type_of (Refused n) = 0
type_of (Translation m0 m1) = 1
type_of (RotZoom m0 m1 m2 m3) = 2
type_of (Affine m0 m1 m2 m3 m4 m5) = 3

-- the values that each case carries
abbrev pub values_of : Fitted → List Float
values_of (Refused n) = []
values_of (Translation m0 m1) = m0 ∷ m1 ∷ []
values_of (RotZoom m0 m1 m2 m3) = m0 ∷ m1 ∷ m2 ∷ m3 ∷ []
values_of (Affine m0 m1 m2 m3 m4 m5) = m0 ∷ m1 ∷ m2 ∷ m3 ∷ m4 ∷ m5 ∷ []

-- the six numbers of the model that each case stands for: a rotation-zoom's last two are −[3] and [2]
abbrev pub model_of : Fitted → List Float
model_of (Refused n) = nought ∷ nought ∷ one ∷ nought ∷ nought ∷ one ∷ []
model_of (Translation m0 m1) = m0 ∷ m1 ∷ one ∷ nought ∷ nought ∷ one ∷ []
model_of (RotZoom m0 m1 m2 m3) = m0 ∷ m1 ∷ m2 ∷ m3 ∷ neg m3 ∷ m2 ∷ []
model_of (Affine m0 m1 m2 m3 m4 m5) = m0 ∷ m1 ∷ m2 ∷ m3 ∷ m4 ∷ m5 ∷ []

-- the mean motion
abbrev pub translation_of : TranslationSums → Float → Fitted
translation_of t n = Translation (t.su ⊘ n) (t.sv ⊘ n)

-- the four equations of a rotation-zoom, for alpha, b, tx, ty
abbrev pub rot_zoom_system : RotZoomSums → Float → System
rot_zoom_system t n =
    record {
      a =
          t.q ∷ nought ∷ t.sx ∷ t.sy ∷
          nought ∷ t.q ∷ t.sy ∷ neg t.sx ∷
          t.sx ∷ t.sy ∷ n ∷ nought ∷
          t.sy ∷ neg t.sx ∷ nought ∷ n ∷ [];
      b = t.p1 ∷ t.p2 ∷ t.su ∷ t.sv ∷ [];
    }

abbrev pub at : Solution → ℕ → Float
at s i = get_or s.x i nan

abbrev pub rot_zoom_model : Solution → Fitted
rot_zoom_model s = unless_singular s.outcome (Refused (number_of s.outcome)) (RotZoom (at s 2) (at s 3) (one ⊕ at s 0) (at s 1))

-- the three equations of an affine model's row, with the right side of that row
abbrev pub affine_system : AffineSums → Float → Float → Float → Float → System
affine_system t n b0 b1 b2 =
    record {
      a =
          t.sxx ∷ t.sxy ∷ t.sx ∷ nought ∷
          t.sxy ∷ t.syy ∷ t.sy ∷ nought ∷
          t.sx ∷ t.sy ∷ n ∷ nought ∷
          nought ∷ nought ∷ nought ∷ nought ∷ [];
      b = b0 ∷ b1 ∷ b2 ∷ nought ∷ [];
    }

abbrev pub affine_u : AffineSums → Float → System
affine_u t n = affine_system t n t.sxu t.syu t.su

abbrev pub affine_v : AffineSums → Float → System
affine_v t n = affine_system t n t.sxv t.syv t.sv

-- the first or the second elimination refuses, or neither
abbrev pub affine_model : Solution → Solution → Fitted
affine_model xu xv =
    unless_singular xu.outcome (Refused (number_of xu.outcome))
    (unless_singular xv.outcome (Refused (number_of xv.outcome))
    (Affine (at xu 2) (at xv 2) (one ⊕ at xu 0) (at xu 1) (at xv 0) (one ⊕ at xv 1)))

-- the fits of sums and their count
abbrev pub rot_zoom_of : RotZoomSums → Float → Fitted
rot_zoom_of t n = rot_zoom_model (solved 4 (rot_zoom_system t n))

abbrev pub affine_of : AffineSums → Float → Fitted
affine_of t n = affine_model (solved 3 (affine_u t n)) (solved 3 (affine_v t n))

-- each fit of the sums over so many samples
abbrev pub translation_by : Summing → ℕ → Fitted
translation_by sum samples = translation_of (translation_totals sum) (count_as samples)

abbrev pub rot_zoom_by : Summing → ℕ → Fitted
rot_zoom_by sum samples = rot_zoom_of (rot_zoom_totals sum) (count_as samples)

abbrev pub affine_by : Summing → ℕ → Fitted
affine_by sum samples = affine_of (affine_totals sum) (count_as samples)

-- each fit of a list of any length whose elements are read as samples
unfoldable pub translation_from : {A : Type 0} → (A → MotionSample) → List A → Fitted
translation_from read xs = translation_by (sums_of read xs) (length xs)

unfoldable pub rot_zoom_from : {A : Type 0} → (A → MotionSample) → List A → Fitted
rot_zoom_from read xs = rot_zoom_by (sums_of read xs) (length xs)

unfoldable pub affine_from : {A : Type 0} → (A → MotionSample) → List A → Fitted
affine_from read xs = affine_by (sums_of read xs) (length xs)

-- of a list of words
abbrev pub translation_fit : List ℕ → Fitted
translation_fit ws = translation_from sample_of ws

abbrev pub rot_zoom_fit : List ℕ → Fitted
rot_zoom_fit ws = rot_zoom_from sample_of ws

abbrev pub affine_fit : List ℕ → Fitted
affine_fit ws = affine_from sample_of ws

-- row 1: a list of so many samples is too long
abbrev pub too_many : ℕ → Bool
too_many samples = ltb most_samples samples

abbrev pub list_refusal : ℕ → ℕ
list_refusal samples = judge (row 1 (too_many samples) ∷ [])

-- the answer of a call over so many samples: the list's refusal, or the fit
abbrev pub fit_answer : ℕ → Fitted → Fitted
fit_answer samples f = answered Refused (list_refusal samples) f

-- row 4: no type of a fit
abbrev pub no_type : ℕ → Bool
no_type gm_type = either (eqb gm_type 0) (ltb 3 gm_type)

abbrev pub type_refusal : ℕ → ℕ
type_refusal gm_type = judge (row 4 (no_type gm_type) ∷ [])

abbrev pub fit_refusal : ℕ → ℕ → ℕ
fit_refusal gm_type samples = or_else (list_refusal samples) (type_refusal gm_type)

-- the fit of a type: 1 TRANSLATION, 2 ROTZOOM, and 3 AFFINE
abbrev pub fit_from : {A : Type 0} → (A → MotionSample) → ℕ → List A → Fitted
fit_from read gm_type xs =
    choose (eqb gm_type 1) (translation_from read xs) (choose (eqb gm_type 2) (rot_zoom_from read xs) (affine_from read xs))

abbrev pub fit_of : ℕ → List ℕ → Fitted
fit_of gm_type ws = fit_from sample_of gm_type ws

abbrev pub fitted : ℕ → List ℕ → Fitted
fitted gm_type ws = answered Refused (fit_refusal gm_type (length ws)) (fit_of gm_type ws)
