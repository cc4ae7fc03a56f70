-- The costs of the search (docs/RULES.md, 'Search'): sums of absolute differences between a block of the input and the reference
-- displaced by a motion, each a sum of row costs.
-- Assumes nothing.
use Rattle.std.specs.Prelude.{ℕ, ◌+◌, ◌*◌, ◌-◌, ◌/◌, ◌%◌, List, ℤ, pos, negsuc}
use Rattle.laws.specs.Loops.{sum}
use Rattle.plane.specs.Plane.{pel_at, down, right}
use Rattle.plane.specs.declared.Place.{Place}
use Rattle.plane.specs.Clamp.{displaced}
use Rattle.plane.specs.Difference.{difference}

-- n pels of the input from a place on against the reference displaced by (dy, dx)
unfoldable pub row_cost : ℕ → List ℕ → List ℕ → Place → ℤ → ℤ → ℕ
row_cost n input ref place dy dx = sum (λ j. difference (pel_at input (right place j)) (displaced ref (right place j) dy dx)) n

-- n × n pels whose first is at the place: the costs of n rows
unfoldable pub block_cost : ℕ → List ℕ → List ℕ → Place → ℤ → ℤ → ℕ
block_cost n input ref place dy dx = sum (λ i. row_cost n input ref (down place i) dy dx) n

-- a motion in eighths as whole pels, rounded down, and the eighths left, 0 to 7
unfoldable pub whole : ℤ → ℤ
whole (pos m) = pos (m / 8)
whole (negsuc m) = negsuc (m / 8)

unfoldable pub fraction : ℤ → ℕ
fraction (pos m) = m % 8
fraction (negsuc m) = 7 - m % 8

-- weights 8 - f and f
abbrev pub weighted : ℕ → ℕ → ℕ → ℕ
weighted f a b = a * (8 - f) + b * f

-- four neighbours, bilinear: plus 32, divided by 64
unfoldable pub bilinear : ℕ → ℕ → ℕ → ℕ → ℕ → ℕ → ℕ
bilinear fy fx p00 p01 p10 p11 = (weighted fy (weighted fx p00 p01) (weighted fx p10 p11) + 32) / 64

-- the reference at a place displaced by (dy, dx) whole pels and (fy, fx) eighths
unfoldable pub predicted : List ℕ → Place → ℤ → ℤ → ℕ → ℕ → ℕ
predicted ref place dy dx fy fx =
    bilinear fy fx
    (displaced ref place dy dx)
    (displaced ref (right place 1) dy dx)
    (displaced ref (down place 1) dy dx)
    (displaced ref (right (down place 1) 1) dy dx)

-- n pels of the input from a place on against the reference so displaced
unfoldable pub bilinear_row_cost : ℕ → List ℕ → List ℕ → Place → ℤ → ℤ → ℕ → ℕ → ℕ
bilinear_row_cost n input ref place dy dx fy fx =
    sum (λ j. difference (pel_at input (right place j)) (predicted ref (right place j) dy dx fy fx)) n

unfoldable pub bilinear_cost : ℕ → List ℕ → List ℕ → Place → ℤ → ℤ → ℕ → ℕ → ℕ
bilinear_cost n input ref place dy dx fy fx = sum (λ i. bilinear_row_cost n input ref (down place i) dy dx fy fx) n

-- 16 × 16 pels whose first is at the place, at a motion of (v, u) eighths
unfoldable pub eighths_cost : List ℕ → List ℕ → Place → ℤ → ℤ → ℕ
eighths_cost input ref place v u = bilinear_cost 16 input ref place (whole v) (whole u) (fraction v) (fraction u)
