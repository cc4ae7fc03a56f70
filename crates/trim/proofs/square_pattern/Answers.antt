-- `trim::square_pattern`: a square above 0 is a number, so it has one pattern.
-- Assumes nothing.
use native.Mathlib.Omega.{arith}
use lib.Ieee.{of_bits}
use Rattle.root.proofs.Ends.{above-is-no-nan}
use Rattle.trim.proofs.square_pattern.Goals as goal

pub float_to_bits-result : goal.float_to_bits-result
unfolding of_bits
float_to_bits-result c = above-is-no-nan _ c.if-square.true

pub returns-then-square : goal.returns-then-square
returns-then-square c = omega arith

pub returns : goal.returns
returns c = omega arith
