-- The root of a binary64, correctly rounded: the nearest whole root of a scaled whole number, found by comparing squares, and scaled back.
-- docs/RULES.md, 'Fits and score'.
-- Assumes nothing.
use Rattle.std.specs.Prelude.{ℕ, zero, suc, ◌+◌, ◌*◌, ◌/◌, ◌^◌, true, false, cond, leb, ℤ, Float}
use Rattle.std.specs.Float.{nan, inf, fin, binary64}
use Rattle.std.specs.Float.Ieee.{up, down, size, round}

-- the greatest k with k * k ≤ n, digit by digit, for an n below 4 ^ digits
unfoldable pub floor_root : ℕ → ℕ → ℕ
floor_root zero n = 0
floor_root (suc digits) n = let k = 2 * floor_root digits (n / 4) in cond (leb ((k + 1) * (k + 1)) n) (k + 1) k

-- the whole number nearest to the root of n, for an n below 4 ^ 53: the middle between k and k + 1 has the square k * k + k + 1/4, which no n is
unfoldable pub nearest_root : ℕ → ℕ
nearest_root n = let k = floor_root 53 n in cond (leb n (k * k + k)) k (k + 1)

-- the magnitude m * 2 ^ e, counted in 1 / 4 ^ 537, which is the least binary64 above 0
abbrev pub magnitude : ℕ → ℤ → ℕ
magnitude m e = m * up e * 4 ^ 537 / down e

-- half the binary digits of n, rounded up
abbrev pub half_digits : ℕ → ℕ
half_digits n = (size n + 1) / 2

-- n scaled by a power of 4 to 105 or 106 binary digits
abbrev pub scaled : ℕ → ℕ
scaled n = n * 4 ^ 53 / 4 ^ half_digits n

-- the root of N * 4 ^ h / 4 ^ 53 / 4 ^ 537
unfoldable pub scaled_back : ℕ → ℕ → Float
scaled_back N h = round binary64 false (nearest_root N * 2 ^ h) (2 ^ (53 + 537))

unfoldable pub root : Float → Float
root nan = nan
root (inf true) = nan
root (inf false) = inf false
root (fin s zero e) = fin s zero e
root (fin true (suc m) e) = nan
root (fin false (suc m) e) = let n = magnitude (suc m) e in scaled_back (scaled n) (half_digits n)
