-- A fitted model on the grid: its linear part quantized, the translation fitted again against that part, and quantized too; x first, and row first as stored.
-- docs/RULES.md, 'Model' and 'Fits and score'.
-- Assumes nothing.
use Rattle.std.specs.Prelude.{ℕ, Bool, List, [], ◌∷◌, ltb, eqb, ℤ, pos, neg_ℤ, length, replicate, set, Float}
use Rattle.laws.specs.Refusal.{row, judge, or_else, choose}
use Rattle.laws.specs.Call.{answered}
use Rattle.laws.specs.Binary64.{◌⊕◌, ◌⊖◌, ◌⊗◌, ◌⊘◌, nought, one}
use Rattle.grid.specs.Grid.{quantized}
use Rattle.sample.specs.declared.MotionSample.{MotionSample}
use Rattle.fit.specs.declared.Fitted.{Fitted}
use Rattle.fit.specs.declared.Fitted.TheVariants.{Refused, Translation, RotZoom, Affine}
use Rattle.fit.specs.declared.TranslationSums.{TranslationSums}
use Rattle.sample.specs.Sample.{sample_of}
use Rattle.fit.specs.Sums.{Summing, sums_of, count_as}
use Rattle.fit.specs.Fitted.{type_of, list_refusal}
use Rattle.score.specs.declared.ContinuousModel.{ContinuousModel}
use Rattle.quantize.specs.declared.Linear.{Linear}
use Rattle.quantize.specs.declared.Motion.{Motion}
use Rattle.quantize.specs.declared.Quantized.{Quantized}
use Rattle.grid_number.specs.GridNumber.{grid_number}
use Rattle.score.specs.Score.{continuous_of, slot}

-- the nearest codable number of a slot to a number's grid number
abbrev pub slot_of : ℕ → ℕ → ℕ → Float → ℤ
slot_of gm_type flag slot value = quantized gm_type flag slot (grid_number value)

abbrev pub identity_linear : Linear
identity_linear = record { p2 = pos 65536; p3 = pos 0; p4 = pos 0; p5 = pos 65536 }

-- slots 2 to 5; a rotation-zoom's pair follows from its first two
abbrev pub rot_zoom_linear : ℤ → ℤ → Linear
rot_zoom_linear p2 p3 = record { p2 = p2; p3 = p3; p4 = neg_ℤ p3; p5 = p2 }

unfoldable pub linear_of : Fitted → ℕ → Linear
linear_of (Refused n) flag = identity_linear
linear_of (Translation m0 m1) flag = identity_linear
linear_of (RotZoom m0 m1 m2 m3) flag = rot_zoom_linear (slot_of 2 flag 2 m2) (slot_of 2 flag 3 m3)
linear_of (Affine m0 m1 m2 m3 m4 m5) flag =
    record { p2 = slot_of 3 flag 2 m2; p3 = slot_of 3 flag 3 m3; p4 = slot_of 3 flag 4 m4; p5 = slot_of 3 flag 5 m5 }

-- the linear part alone, as binary64 numbers
abbrev pub continuous_linear : Linear → ContinuousModel
continuous_linear l =
    record {
      m0 = nought;
      m1 = nought;
      m2 = continuous_of l.p2;
      m3 = continuous_of l.p3;
      m4 = continuous_of l.p4;
      m5 = continuous_of l.p5;
    }

-- the motion of a sample that the linear part leaves
abbrev pub left_u : ContinuousModel → MotionSample → Float
left_u m s = s.u ⊖ ((m.m2 ⊖ one) ⊗ s.x ⊕ m.m3 ⊗ s.y)

abbrev pub left_v : ContinuousModel → MotionSample → Float
left_v m s = s.v ⊖ (m.m4 ⊗ s.x ⊕ (m.m5 ⊖ one) ⊗ s.y)

unfoldable pub refit_totals : ContinuousModel → Summing → TranslationSums
refit_totals m sum = record { su = sum (left_u m); sv = sum (left_v m) }

-- its mean over so many samples, 0 with none
abbrev pub mean_motion : TranslationSums → ℕ → Motion
mean_motion t samples =
    choose (eqb samples 0)
    (record { u = nought; v = nought })
    (record { u = t.su ⊘ count_as samples; v = t.sv ⊘ count_as samples })

abbrev pub refit_by : Linear → Summing → ℕ → Motion
refit_by l sum samples = mean_motion (refit_totals (continuous_linear l) sum) samples

-- over a list whose elements are read as samples
unfoldable pub refitted_from : {A : Type 0} → (A → MotionSample) → Linear → List A → Motion
refitted_from read l xs = refit_by l (sums_of read xs) (length xs)

abbrev pub refitted : Linear → List ℕ → Motion
refitted l ws = refitted_from sample_of l ws

-- the six numbers, x first
abbrev pub params_of : ℕ → ℕ → Linear → Motion → List ℤ
params_of gm_type flag l t = slot_of gm_type flag 0 t.u ∷ slot_of gm_type flag 1 t.v ∷ l.p2 ∷ l.p3 ∷ l.p4 ∷ l.p5 ∷ []

unfoldable pub params_from : {A : Type 0} → (A → MotionSample) → Fitted → ℕ → List A → List ℤ
params_from read f flag xs = params_of (type_of f) flag (linear_of f flag) (refitted_from read (linear_of f flag) xs)

abbrev pub params : Fitted → ℕ → List ℕ → List ℤ
params f flag ws = params_from sample_of f flag ws

-- a refused fit is no model: it has no type
abbrev pub no_model : Fitted → Bool
no_model f = eqb (type_of f) 0

abbrev pub model_refusal : Fitted → ℕ → ℕ
model_refusal f flag = judge (row 4 (no_model f) ∷ row 4 (ltb 1 flag) ∷ [])

abbrev pub quantize_refusal : Fitted → ℕ → ℕ → ℕ
quantize_refusal f flag samples = or_else (list_refusal samples) (model_refusal f flag)

abbrev pub quantized_as : ℕ → List ℤ → Quantized
quantized_as n p = record { refusal = n; params = p }

abbrev pub refused_model : ℕ → Quantized
refused_model n = quantized_as n (replicate 6 (pos 0))

abbrev pub quantized_from : {A : Type 0} → (A → MotionSample) → Fitted → ℕ → List A → Quantized
quantized_from read f flag xs = answered refused_model (quantize_refusal f flag (length xs)) (quantized_as 0 (params_from read f flag xs))

-- of a list of words
abbrev pub quantized_model : Fitted → ℕ → List ℕ → Quantized
quantized_model f flag ws = quantized_from sample_of f flag ws

-- slots 0 and 1 exchanged
abbrev pub exchange : List ℤ → List ℤ
exchange p = set (set p 0 (slot p 1)) 1 (slot p 0)

-- a TRANSLATION is stored row first; the same takes it back
abbrev pub row_first : ℕ → List ℤ → List ℤ
row_first gm_type p = choose (eqb gm_type 1) (exchange p) p
