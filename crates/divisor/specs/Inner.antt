-- What the functions of the division ask and answer; no public contract cites it.
-- Assumes nothing.
use Rattle.std.specs.Prelude.{ℕ, ◌*◌, ◌^◌, ◌≤◌, ◌<◌, ℤ, pos, nat_abs, ◌-ℤ◌}

-- a divisor of 16 or 17 bits, as slot 2 is
pub record Divisor (d : ℕ) : Type 0 where
  pub low : 32768 ≤ d
  pub high : d < 131072

-- its floor of the logarithm
pub record Exponent (n d : ℕ) : Type 0 where
  pub least : 8 < n
  pub most : n ≤ 16
  pub low : 2 ^ n ≤ d
  pub high : d < 2 * 2 ^ n

-- a number and a count of places that it can be rounded by
pub record Rounded (m n : ℕ) : Type 0 where
  pub small : m < 2 ^ 61
  pub places : n ≤ 32

-- how far the codable numbers of slots 2 and 5 reach
pub record Reach (p : ℤ) : Type 0 where
  pub within : nat_abs (p -ℤ pos 65536) ≤ 8192

-- a number to be divided by slot 2
pub record Dividing (p2 x : ℤ) : Type 0 where
  pub by : Reach p2
  pub small : nat_abs x < 2 ^ 32
