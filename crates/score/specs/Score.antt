-- A model of whole numbers as binary64 numbers, its residual at a sample, and the score of a list: the mean squared residual, 0.0 for none.
-- docs/RULES.md, 'Fits and score'.
-- Assumes nothing.
use Rattle.std.specs.Prelude.{ℕ, List, eqb, ℤ, pos, length, get_or, Float}
use Rattle.std.specs.Float.{binary64}
use Rattle.std.specs.Float.Ieee.{of_int}
use Rattle.laws.specs.Loops.{fold}
use Rattle.laws.specs.Refusal.{choose}
use Rattle.laws.specs.Call.{answered}
use Rattle.laws.specs.Binary64.{◌⊕◌, ◌⊖◌, ◌⊗◌, ◌⊘◌, nought, one}
use Rattle.sample.specs.declared.MotionSample.{MotionSample}
use Rattle.sample.specs.Sample.{sample_of}
use Rattle.fit.specs.Sums.{reading}
use Rattle.fit.specs.Fitted.{list_refusal}
use Rattle.score.specs.declared.ContinuousModel.{ContinuousModel}
use Rattle.score.specs.declared.Score.{Score}
use Rattle.grid_number.specs.GridNumber.{scale}

-- a whole number at 16 fraction bits
abbrev pub continuous_of : ℤ → Float
continuous_of z = of_int binary64 z ⊘ scale

abbrev pub slot : List ℤ → ℕ → ℤ
slot p i = get_or p i (pos 0)

unfoldable pub continuous_model : List ℤ → ContinuousModel
continuous_model p =
    record {
      m0 = continuous_of (slot p 0);
      m1 = continuous_of (slot p 1);
      m2 = continuous_of (slot p 2);
      m3 = continuous_of (slot p 3);
      m4 = continuous_of (slot p 4);
      m5 = continuous_of (slot p 5);
    }

-- the motion that a model predicts at a sample
abbrev pub motion_u : ContinuousModel → MotionSample → Float
motion_u m s = (m.m2 ⊖ one) ⊗ s.x ⊕ m.m3 ⊗ s.y ⊕ m.m0

abbrev pub motion_v : ContinuousModel → MotionSample → Float
motion_v m s = m.m4 ⊗ s.x ⊕ (m.m5 ⊖ one) ⊗ s.y ⊕ m.m1

abbrev pub square : Float → Float
square d = d ⊗ d

-- the squared residual of a sample
unfoldable pub residual_of : ContinuousModel → MotionSample → Float
residual_of m s = square (s.u ⊖ motion_u m s) ⊕ square (s.v ⊖ motion_v m s)

abbrev pub score_step : ContinuousModel → Float → MotionSample → Float
score_step m acc s = acc ⊕ residual_of m s

-- the sum over so many samples, divided
abbrev pub mean_of : Float → ℕ → Float
mean_of acc samples = choose (eqb samples 0) nought (acc ⊘ of_int binary64 (pos samples))

abbrev pub score_as : ℕ → Float → Score
score_as n score = record { refusal = n; score = score }

unfoldable pub score_of : Float → ℕ → Score
score_of acc samples = answered (λ n. score_as n nought) (list_refusal samples) (score_as 0 (mean_of acc samples))

-- the score of a list whose elements stand for samples
abbrev pub scored : {A : Type 0} → (A → MotionSample) → ContinuousModel → List A → Score
scored read m xs = score_of (fold (reading (score_step m) read) xs nought) (length xs)

abbrev pub mean_sq_residual : List ℤ → List ℕ → Score
mean_sq_residual p ws = scored sample_of (continuous_model p) ws
