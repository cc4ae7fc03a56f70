-- The two sums of the translation refit against a linear part on the grid, in whole numbers as the table has them.
-- docs/RULES.md, 'Fits and score'.
-- Assumes nothing.
use Rattle.std.specs.Prelude.{ℕ, ◌+◌, ◌*◌, ◌^◌, ℤ, pos, ◌+ℤ◌, ◌-ℤ◌, ◌*ℤ◌}
use Rattle.quantize.specs.declared.Linear.{Linear}
use Rattle.quantize.specs.Quantize.{continuous_linear, left_u, left_v}
use Rattle.exact.specs.Table.{Sum, x_halves, y_halves, u_eighths, v_eighths, most_halves, high_eighths}

-- 1 at 16 fraction bits
abbrev pub whole1 : ℕ
whole1 = 65536

-- the linear part of a codable model is at most 4,096 steps of 2 from the identity
abbrev pub most_turn : ℕ
most_turn = 8192

-- the motion over 2 ^ 17, less what the two numbers of a row predict at a centre
abbrev pub left_over : ℤ → ℤ → ℤ → ℕ → ℤ
left_over eighths a b w = eighths *ℤ pos (2 ^ 14) -ℤ (a *ℤ x_halves w +ℤ b *ℤ y_halves w)

abbrev pub most_left : ℕ
most_left = 2 ^ 14 * high_eighths + (most_halves * most_turn + most_halves * most_turn)

abbrev pub sum_left_u : Linear → Sum
sum_left_u l =
    record { term = left_u (continuous_linear l); whole = λ w. left_over (u_eighths w) (l.p2 -ℤ pos whole1) l.p3 w; scale = 17; most = most_left }

abbrev pub sum_left_v : Linear → Sum
sum_left_v l =
    record { term = left_v (continuous_linear l); whole = λ w. left_over (v_eighths w) l.p4 (l.p5 -ℤ pos whole1) w; scale = 17; most = most_left }
