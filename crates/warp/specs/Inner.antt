-- What the functions below the public calls ask and answer; no public contract cites it.
-- Assumes nothing.
use Rattle.std.specs.Prelude.{ℕ, ◌≤◌, ℤ, nat_abs}
use Rattle.divisor.specs.Inner.{Reach}

-- how far those of all four reach
pub record Linear (p2 p3 p4 p5 : ℤ) : Type 0 where
  pub slot2 : Reach p2
  pub slot3 : nat_abs p3 ≤ 8192
  pub slot4 : nat_abs p4 ≤ 8192
  pub slot5 : Reach p5

-- two numbers of 16 bits, and a weight
pub record Weighed (x y : ℤ) (weight : ℕ) : Type 0 where
  pub x_small : nat_abs x ≤ 32768
  pub y_small : nat_abs y ≤ 32768
  pub light : weight ≤ 7

-- four numbers of 16 bits
pub record Clamped (alpha beta gamma delta : ℤ) : Type 0 where
  pub alpha_small : nat_abs alpha ≤ 32768
  pub beta_small : nat_abs beta ≤ 32768
  pub gamma_small : nat_abs gamma ≤ 32768
  pub delta_small : nat_abs delta ≤ 32768
