-- The sample of a word as four binary64 numbers in pels: x = 16 C + 7.5, y = 16 R + 7.5, u and v the eighths divided by 8, each step rounded once.
-- docs/RULES.md, 'Sample'.
-- Assumes nothing.
use Rattle.std.specs.Prelude.{ℕ, ◌*◌, ℤ, pos, ◌-ℤ◌, Float}
use Rattle.std.specs.Float.{binary64}
use Rattle.std.specs.Float.Ieee.{add, div, of_int, of_bits}
use Rattle.sample.specs.declared.MotionSample.{MotionSample}
use Rattle.sample.specs.Word.{row_of, col_of, v_of, u_of}

-- a stored motion is its eighths plus this
abbrev pub motion_bias : ℕ
motion_bias = 223

abbrev pub block_side : ℕ
block_side = 16

-- the signed eighths of a stored motion
abbrev pub eighths_of : ℕ → ℤ
eighths_of stored = pos stored -ℤ pos motion_bias

-- 7.5, from a block's first pel to its centre
abbrev pub to_centre : Float
to_centre = of_bits binary64 0x401e_0000_0000_0000

-- 8.0
abbrev pub eight : Float
eight = of_bits binary64 0x4020_0000_0000_0000

-- the centre of the block at this row or column, in pels
abbrev pub centre_of : ℕ → Float
centre_of place = add binary64 (of_int binary64 (pos (block_side * place))) to_centre

-- a stored motion in pels
abbrev pub pels_of : ℕ → Float
pels_of stored = div binary64 (of_int binary64 (eighths_of stored)) eight

abbrev pub sample_of : ℕ → MotionSample
sample_of w = record { x = centre_of (col_of w); y = centre_of (row_of w); u = pels_of (u_of w); v = pels_of (v_of w) }
