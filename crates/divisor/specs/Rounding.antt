-- The standard's functions on numbers that the shear needs: section 4.7, Round2, Round2Signed, FloorLog2 and Clip3.
-- docs/RULES.md, 'Shear'.
-- Assumes nothing.
use Rattle.std.specs.Prelude.{ℕ, zero, suc, ◌+◌, ◌/◌, ◌^◌, ltb, ℤ, nat_abs}
use Rattle.std.specs.Int.Signed.{lt_z}
use Rattle.laws.specs.Refusal.{choose}
use Rattle.grid.specs.Grid.{negative, signed}

-- x divided by 2 ^ n, half up; the half is 2 ^ (n - 1), and nothing for n = 0
unfoldable pub round2 : ℕ → ℕ → ℕ
round2 x n = (x + 2 ^ n / 2) / 2 ^ n

-- the magnitude is rounded, the sign stays
unfoldable pub round2_signed : ℤ → ℕ → ℤ
round2_signed x n = signed (negative x) (round2 (nat_abs x) n)

-- how often x can be halved before it is below 2, at most `halvings` times
unfoldable pub floor_log2_by : ℕ → ℕ → ℕ
floor_log2_by zero x = 0
floor_log2_by (suc halvings) x = choose (ltb x 2) 0 (suc (floor_log2_by halvings (x / 2)))

-- of a magnitude of 32 bits
abbrev pub floor_log2 : ℕ → ℕ
floor_log2 x = floor_log2_by 31 x

abbrev pub clip3 : ℤ → ℤ → ℤ → ℤ
clip3 low high x = choose (lt_z x low) low (choose (lt_z high x) high x)
