-- The grid number of a binary64: its product with 65536, rounded half away from zero, held to the i32 range, 0 for not-a-number.
-- docs/RULES.md, 'Fits and score'.
-- Assumes nothing.
use Rattle.std.specs.Prelude.{ℕ, ◌+◌, ◌-◌, ◌*◌, ◌/◌, min, Bool, true, false, ℤ, pos, neg_ℤ, from_bits, Float}
use Rattle.std.specs.Float.{nan, inf, fin, binary64}
use Rattle.std.specs.Float.Ieee.{up, down}
use Rattle.laws.specs.Binary64.{◌⊗◌}

-- 65536.0, one at 16 fraction bits
abbrev pub scale : Float
scale = from_bits binary64 0x40f0_0000_0000_0000

-- the whole number nearest to num / den, of two the larger
abbrev pub half_away : ℕ → ℕ → ℕ
half_away num den = (num + num + den) / (den + den)

-- the magnitude of the least i32
abbrev pub limit : ℕ
limit = 2147483648

-- a number's magnitude, rounded half away from zero, no more than the limit
unfoldable pub magnitude : Float → ℕ
magnitude nan = 0
magnitude (inf s) = limit
magnitude (fin s m e) = min (half_away (m * up e) (down e)) limit

abbrev pub below : Float → Bool
below nan = false
below (inf s) = s
below (fin s m e) = s

-- a magnitude with its sign, in the i32 range
abbrev pub held : Bool → ℕ → ℤ
held true n = neg_ℤ (pos n)
held false n = pos (min n (limit - 1))

unfoldable pub rounded : Float → ℤ
rounded y = held (below y) (magnitude y)

abbrev pub grid_number : Float → ℤ
grid_number value = rounded (value ⊗ scale)
