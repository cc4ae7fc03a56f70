-- What the functions below the public calls ask and answer; no public contract cites it.
-- Assumes nothing.
use Rattle.std.specs.Prelude.{ℕ, ◌*◌, ◌≤◌, ◌<◌, Result, Ok, Err}
use Rattle.refusal.specs.Number.{number_of}
use Rattle.refusal.specs.declared.Refusal.{Refusal}
use Rattle.price.specs.Frame.{not_priced}
use Rattle.price.specs.declared.Price.{Price}

-- abs_bits that a slot has, and a length among those of its codes
pub record Bits (abs : ℕ) : Type 0 where
  pub four : 4 ≤ abs
  pub twelve : abs ≤ 12

pub record Length (abs bits : ℕ) : Type 0 where
  pub of : Bits abs
  pub least : 4 ≤ bits
  pub most : bits < 2 * abs

-- a frame's bits or its refusal, as the call gives them
abbrev pub price_of : Result ℕ Refusal → Price
price_of (Ok n) = record { refusal = 0; bits = n }
price_of (Err r) = not_priced (number_of r)
