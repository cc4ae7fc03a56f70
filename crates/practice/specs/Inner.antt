-- What the functions below the public call ask and answer; no public contract cites it.
-- Assumes nothing.
use Rattle.std.specs.Prelude.{ℕ, ◌≤◌, ◌≡◌, ℤ}
use Rattle.plane.specs.Clamp.{offset}
use Rattle.practice_planes.specs.Shift.{largest_shift}

-- a natural number that stands for a shift
pub record Biased (shift : ℤ) (n : ℕ) : Type 0 where
  pub same : offset largest_shift n ≡ shift
  pub small : n ≤ 48
