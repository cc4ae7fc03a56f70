-- `root::middle_squared`: the square by halves is the square divided.
-- Assumes nothing.
use native.Mathlib.Omega.{arith}
use Rattle.root.proofs.Halves.{middle-by-halves, small_halves}
use Rattle.root.proofs.middle_squared.Goals as goal

pub overflow_mul-result : goal.overflow_mul-result
overflow_mul-result c = omega (arith, (small_halves c.args.k c.requires).high)

pub overflow_mul-result-3 : goal.overflow_mul-result-3
overflow_mul-result-3 c = omega (arith, (small_halves c.args.k c.requires).across)

pub overflow_mul-result-4 : goal.overflow_mul-result-4
overflow_mul-result-4 c = omega (arith, (small_halves c.args.k c.requires).low)

pub overflow_add-result : goal.overflow_add-result
overflow_add-result c = omega (arith, c.requires, (small_halves c.args.k c.requires).low)

pub overflow_add-result-2 : goal.overflow_add-result-2
overflow_add-result-2 c = let s = small_halves c.args.k c.requires in omega (arith, c.requires, s.across, s.low)

pub overflow_add-result-3 : goal.overflow_add-result-3
overflow_add-result-3 c = let s = small_halves c.args.k c.requires in omega (arith, c.requires, s.high, s.across, s.low)

pub returns : goal.returns
returns c = middle-by-halves c.args.k
