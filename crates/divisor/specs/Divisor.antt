-- The division by a table of reciprocals: clause 7.11.3.7, resolve divisor.
-- docs/RULES.md, 'Shear'.
-- Assumes nothing.
use Rattle.std.specs.Prelude.{ℕ, ◌+◌, ◌*◌, ◌-◌, ◌/◌, ◌^◌, ltb, ℤ, nat_abs, ◌*ℤ◌}
use Rattle.laws.specs.Refusal.{choose}
use Rattle.grid.specs.Grid.{negative, signed}
use Rattle.divisor.specs.Rounding.{round2, round2_signed, floor_log2}

-- DIV_LUT_BITS
abbrev pub div_lut_bits : ℕ
div_lut_bits = 8

-- DIV_LUT_PREC_BITS
abbrev pub div_lut_prec_bits : ℕ
div_lut_prec_bits = 14

-- entry i of the table of DIV_LUT_NUM, 257: 4,194,304 divided by 256 + i, to the nearest; none is a tie
unfoldable pub div_lut : ℕ → ℕ
div_lut i = (4194304 + (256 + i) / 2) / (256 + i)

-- the place in the table of what d has beyond its highest bit, 2 ^ n
abbrev pub lut_index_at : ℕ → ℕ → ℕ
lut_index_at n d = choose (ltb div_lut_bits n) (round2 (d - 2 ^ n) (n - div_lut_bits)) ((d - 2 ^ n) * 2 ^ (div_lut_bits - n))

abbrev pub lut_index : ℕ → ℕ
lut_index d = lut_index_at (floor_log2 d) d

-- 2 ^ div_shift / div_factor is about d
unfoldable pub div_shift : ℤ → ℕ
div_shift d = floor_log2 (nat_abs d) + div_lut_prec_bits

unfoldable pub div_factor : ℤ → ℤ
div_factor d = signed (negative d) (div_lut (lut_index (nat_abs d)))

-- x divided by d
unfoldable pub divided_by : ℤ → ℤ → ℤ
divided_by d x = round2_signed (x *ℤ div_factor d) (div_shift d)
