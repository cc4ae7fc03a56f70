-- The negation of a magnitude up to 2 ^ 31 is an i32.
-- Assumes nothing.
use Rattle.std.proofs.Common.{ℕ, zero, suc, ◌≤◌, pos, neg_ℤ, arith, w32, SFits}
use Rattle.grid_number.specs.GridNumber.{limit}

pub negation-fits : (n : ℕ) → n ≤ limit → SFits w32 (neg_ℤ (pos n))
negation-fits zero h = record { sfits = omega arith }
negation-fits (suc n) h = record { sfits = omega arith }
