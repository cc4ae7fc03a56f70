-- What the functions below the public call ask and answer; no public contract cites it.
-- Assumes nothing.
use Rattle.std.specs.Prelude.{ℕ, ◌+◌, ◌*◌, ◌/◌, ◌%◌, ◌^◌, ◌≤◌, ◌<◌, Float}
use Rattle.root.specs.Root.{scaled_back}

-- the weight of a significand's leading digit
abbrev pub leading : ℕ
leading = 4503599627370496

-- a whole number with its leading digit at 2 ^ 52
pub record Significand (m : ℕ) : Type 0 where
  pub low : leading ≤ m
  pub high : m < 2 * leading

-- a significand, or twice one
pub record Tall (t : ℕ) : Type 0 where
  pub low : leading ≤ t
  pub high : t + 2 ≤ 4 * leading

-- the whole part of k (k + 1) / 2 ^ 52: it is below t exactly where k is too low for the root of t * 2 ^ 52
unfoldable pub middle : ℕ → ℕ
middle k = k * (k + 1) / leading

-- the root of m * 2 ^ p / 2 ^ 52, counted in the least binary64 above 0
abbrev pub significand_root : ℕ → ℕ → Float
significand_root m p = scaled_back (m * 2 ^ (p % 2) * leading) (p / 2 + 1)
