-- The codable numbers of a slot and the quantization onto them: docs/RULES.md, 'Grid'; clause 5.9.25.
-- Assumes nothing.
use Rattle.std.specs.Prelude.{ℕ, ◌+◌, ◌-◌, ◌/◌, ◌^◌, ◌≤◌, min, Bool, true, false, [], ◌∷◌, ◌≡◌, ltb, eqb, ℤ, pos, neg_ℤ, nat_abs, ◌+ℤ◌, ◌-ℤ◌, ◌*ℤ◌}
use Rattle.laws.specs.Refusal.{row, choose, either, judge}
pub use Rattle.laws.specs.Signed.{negative}
use Rattle.grid.specs.declared.ParamBits.{ParamBits}
use Rattle.grid.specs.declared.Quantized.{Quantized}

-- ---- the table's rows, by type, flag and slot

-- slots 0 and 1 of a TRANSLATION
abbrev pub translational : ℕ → ℕ → Bool
translational gm_type slot = choose (ltb slot 2) (eqb gm_type 1) false

abbrev pub abs_bits : ℕ → ℕ → ℕ → ℕ
abs_bits gm_type flag slot = choose (translational gm_type slot) (choose (eqb flag 1) 9 8) 12

abbrev pub prec_bits : ℕ → ℕ → ℕ → ℕ
prec_bits gm_type flag slot = choose (translational gm_type slot) (choose (eqb flag 1) 3 2) (choose (ltb slot 2) 6 15)

abbrev pub param_bits : ℕ → ℕ → ℕ → ParamBits
param_bits gm_type flag slot = record { abs_bits = abs_bits gm_type flag slot; prec_bits = prec_bits gm_type flag slot }

-- what a slot's ordinal 0 stands for: 65536 in slots 2 and 5
abbrev pub centre : ℕ → ℕ
centre slot = choose (either (eqb slot 2) (eqb slot 5)) 65536 0

-- ---- codable numbers, for any abs_bits, prec_bits and centre

-- the distance of two codable numbers
abbrev pub step : ℕ → ℕ
step prec = 2 ^ (16 - prec)

-- the number of an ordinal
abbrev pub number : ℕ → ℕ → ℤ → ℤ
number prec c ordinal = ordinal *ℤ pos (step prec) +ℤ pos c

-- the ordinals of a slot
pub record Ordinal (abs : ℕ) (k : ℤ) : Type 0 where
  pub within : nat_abs k ≤ 2 ^ abs

pub record Codable (abs prec c : ℕ) (z : ℤ) : Type 0 where
  pub ordinal : ℤ
  pub in-range : Ordinal abs ordinal
  pub is : z ≡ number prec c ordinal

-- ---- quantization: to the nearest ordinal, half away from zero, held to 2 ^ abs_bits on either side

-- a magnitude with its sign
abbrev pub signed : Bool → ℕ → ℤ
signed true n = neg_ℤ (pos n)
signed false n = pos n

-- the ordinal's magnitude for the magnitude m
unfoldable pub nearest_ordinal : ℕ → ℕ → ℕ → ℕ
nearest_ordinal abs prec m = min ((m + step prec / 2) / step prec) (2 ^ abs)

abbrev pub ordinal_of : ℕ → ℕ → ℕ → ℤ → ℤ
ordinal_of abs prec c z = signed (negative (z -ℤ pos c)) (nearest_ordinal abs prec (nat_abs (z -ℤ pos c)))

unfoldable pub quantize : ℕ → ℕ → ℕ → ℤ → ℤ
quantize abs prec c z = number prec c (ordinal_of abs prec c z)

-- ---- the public call

-- abs_bits and prec_bits of a row of the table: enough of them for the code to stay within an i32
pub record Row (abs prec : ℕ) : Type 0 where
  pub fraction : prec ≤ 16
  pub reach : abs + (16 - prec) ≤ 22

abbrev pub refusal : ℕ → ℕ → ℕ → ℕ
refusal gm_type flag slot = judge (row 4 (ltb 3 gm_type) ∷ row 4 (ltb 1 flag) ∷ row 5 (ltb 5 slot) ∷ [])

abbrev pub quantized : ℕ → ℕ → ℕ → ℤ → ℤ
quantized gm_type flag slot z = quantize (abs_bits gm_type flag slot) (prec_bits gm_type flag slot) (centre slot) z

abbrev pub rejected : ℕ → Quantized
rejected number = record { refusal = number; value = pos 0 }

unfoldable pub answer : ℕ → ℕ → ℕ → ℤ → Quantized
answer gm_type flag slot z =
    choose (eqb (refusal gm_type flag slot) 0)
    (record { refusal = 0; value = quantized gm_type flag slot z })
    (rejected (refusal gm_type flag slot))
