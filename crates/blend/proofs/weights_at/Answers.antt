-- `weights_at`: two numbers up to 8 give a weight up to 64.
-- Assumes nothing.
use Prim.Native.Nat.{◌-◌}
use Rattle.blend.proofs.Weighed.{weight-small}
use native.Mathlib.Omega.{arith}
use Rattle.blend.proofs.weights_at.Goals as goal

pub overflow_sub-result : goal.overflow_sub-result
overflow_sub-result c = omega (arith, c.requires.1.fy_small, c.requires.1.fx_small, weight-small c.args.times (8 - c.args.fy) (8 - c.args.fx) c.requires.0 (omega arith) (omega arith), weight-small c.args.times (8 - c.args.fy) c.args.fx c.requires.0 (omega arith) (omega (arith, c.requires.1.fx_small)), weight-small c.args.times c.args.fy (8 - c.args.fx) c.requires.0 (omega (arith, c.requires.1.fy_small)) (omega arith), weight-small c.args.times c.args.fy c.args.fx c.requires.0 (omega (arith, c.requires.1.fy_small)) (omega (arith, c.requires.1.fx_small)))

pub overflow_sub-result-2 : goal.overflow_sub-result-2
overflow_sub-result-2 c = omega (arith, c.requires.1.fy_small, c.requires.1.fx_small, weight-small c.args.times (8 - c.args.fy) (8 - c.args.fx) c.requires.0 (omega arith) (omega arith), weight-small c.args.times (8 - c.args.fy) c.args.fx c.requires.0 (omega arith) (omega (arith, c.requires.1.fx_small)), weight-small c.args.times c.args.fy (8 - c.args.fx) c.requires.0 (omega (arith, c.requires.1.fy_small)) (omega arith), weight-small c.args.times c.args.fy c.args.fx c.requires.0 (omega (arith, c.requires.1.fy_small)) (omega (arith, c.requires.1.fx_small)))

pub overflow_mul-result : goal.overflow_mul-result
overflow_mul-result c = omega (arith, c.requires.1.fy_small, c.requires.1.fx_small, weight-small c.args.times (8 - c.args.fy) (8 - c.args.fx) c.requires.0 (omega arith) (omega arith), weight-small c.args.times (8 - c.args.fy) c.args.fx c.requires.0 (omega arith) (omega (arith, c.requires.1.fx_small)), weight-small c.args.times c.args.fy (8 - c.args.fx) c.requires.0 (omega (arith, c.requires.1.fy_small)) (omega arith), weight-small c.args.times c.args.fy c.args.fx c.requires.0 (omega (arith, c.requires.1.fy_small)) (omega (arith, c.requires.1.fx_small)))

pub overflow_mul-result-2 : goal.overflow_mul-result-2
overflow_mul-result-2 c = omega (arith, c.requires.1.fy_small, c.requires.1.fx_small, weight-small c.args.times (8 - c.args.fy) (8 - c.args.fx) c.requires.0 (omega arith) (omega arith), weight-small c.args.times (8 - c.args.fy) c.args.fx c.requires.0 (omega arith) (omega (arith, c.requires.1.fx_small)), weight-small c.args.times c.args.fy (8 - c.args.fx) c.requires.0 (omega (arith, c.requires.1.fy_small)) (omega arith), weight-small c.args.times c.args.fy c.args.fx c.requires.0 (omega (arith, c.requires.1.fy_small)) (omega (arith, c.requires.1.fx_small)))

pub overflow_sub-result-3 : goal.overflow_sub-result-3
overflow_sub-result-3 c = omega (arith, c.requires.1.fy_small, c.requires.1.fx_small, weight-small c.args.times (8 - c.args.fy) (8 - c.args.fx) c.requires.0 (omega arith) (omega arith), weight-small c.args.times (8 - c.args.fy) c.args.fx c.requires.0 (omega arith) (omega (arith, c.requires.1.fx_small)), weight-small c.args.times c.args.fy (8 - c.args.fx) c.requires.0 (omega (arith, c.requires.1.fy_small)) (omega arith), weight-small c.args.times c.args.fy c.args.fx c.requires.0 (omega (arith, c.requires.1.fy_small)) (omega (arith, c.requires.1.fx_small)))

pub overflow_mul-result-3 : goal.overflow_mul-result-3
overflow_mul-result-3 c = omega (arith, c.requires.1.fy_small, c.requires.1.fx_small, weight-small c.args.times (8 - c.args.fy) (8 - c.args.fx) c.requires.0 (omega arith) (omega arith), weight-small c.args.times (8 - c.args.fy) c.args.fx c.requires.0 (omega arith) (omega (arith, c.requires.1.fx_small)), weight-small c.args.times c.args.fy (8 - c.args.fx) c.requires.0 (omega (arith, c.requires.1.fy_small)) (omega arith), weight-small c.args.times c.args.fy c.args.fx c.requires.0 (omega (arith, c.requires.1.fy_small)) (omega (arith, c.requires.1.fx_small)))

pub overflow_mul-result-4 : goal.overflow_mul-result-4
overflow_mul-result-4 c = omega (arith, c.requires.1.fy_small, c.requires.1.fx_small, weight-small c.args.times (8 - c.args.fy) (8 - c.args.fx) c.requires.0 (omega arith) (omega arith), weight-small c.args.times (8 - c.args.fy) c.args.fx c.requires.0 (omega arith) (omega (arith, c.requires.1.fx_small)), weight-small c.args.times c.args.fy (8 - c.args.fx) c.requires.0 (omega (arith, c.requires.1.fy_small)) (omega arith), weight-small c.args.times c.args.fy c.args.fx c.requires.0 (omega (arith, c.requires.1.fy_small)) (omega (arith, c.requires.1.fx_small)))

pub overflow_sub-result-4 : goal.overflow_sub-result-4
overflow_sub-result-4 c = omega (arith, c.requires.1.fy_small, c.requires.1.fx_small, weight-small c.args.times (8 - c.args.fy) (8 - c.args.fx) c.requires.0 (omega arith) (omega arith), weight-small c.args.times (8 - c.args.fy) c.args.fx c.requires.0 (omega arith) (omega (arith, c.requires.1.fx_small)), weight-small c.args.times c.args.fy (8 - c.args.fx) c.requires.0 (omega (arith, c.requires.1.fy_small)) (omega arith), weight-small c.args.times c.args.fy c.args.fx c.requires.0 (omega (arith, c.requires.1.fy_small)) (omega (arith, c.requires.1.fx_small)))

pub overflow_mul-result-5 : goal.overflow_mul-result-5
overflow_mul-result-5 c = omega (arith, c.requires.1.fy_small, c.requires.1.fx_small, weight-small c.args.times (8 - c.args.fy) (8 - c.args.fx) c.requires.0 (omega arith) (omega arith), weight-small c.args.times (8 - c.args.fy) c.args.fx c.requires.0 (omega arith) (omega (arith, c.requires.1.fx_small)), weight-small c.args.times c.args.fy (8 - c.args.fx) c.requires.0 (omega (arith, c.requires.1.fy_small)) (omega arith), weight-small c.args.times c.args.fy c.args.fx c.requires.0 (omega (arith, c.requires.1.fy_small)) (omega (arith, c.requires.1.fx_small)))

pub overflow_mul-result-6 : goal.overflow_mul-result-6
overflow_mul-result-6 c = omega (arith, c.requires.1.fy_small, c.requires.1.fx_small, weight-small c.args.times (8 - c.args.fy) (8 - c.args.fx) c.requires.0 (omega arith) (omega arith), weight-small c.args.times (8 - c.args.fy) c.args.fx c.requires.0 (omega arith) (omega (arith, c.requires.1.fx_small)), weight-small c.args.times c.args.fy (8 - c.args.fx) c.requires.0 (omega (arith, c.requires.1.fy_small)) (omega arith), weight-small c.args.times c.args.fy c.args.fx c.requires.0 (omega (arith, c.requires.1.fy_small)) (omega (arith, c.requires.1.fx_small)))

pub overflow_mul-result-7 : goal.overflow_mul-result-7
overflow_mul-result-7 c = omega (arith, c.requires.1.fy_small, c.requires.1.fx_small, weight-small c.args.times (8 - c.args.fy) (8 - c.args.fx) c.requires.0 (omega arith) (omega arith), weight-small c.args.times (8 - c.args.fy) c.args.fx c.requires.0 (omega arith) (omega (arith, c.requires.1.fx_small)), weight-small c.args.times c.args.fy (8 - c.args.fx) c.requires.0 (omega (arith, c.requires.1.fy_small)) (omega arith), weight-small c.args.times c.args.fy c.args.fx c.requires.0 (omega (arith, c.requires.1.fy_small)) (omega (arith, c.requires.1.fx_small)))

pub overflow_mul-result-8 : goal.overflow_mul-result-8
overflow_mul-result-8 c = omega (arith, c.requires.1.fy_small, c.requires.1.fx_small, weight-small c.args.times (8 - c.args.fy) (8 - c.args.fx) c.requires.0 (omega arith) (omega arith), weight-small c.args.times (8 - c.args.fy) c.args.fx c.requires.0 (omega arith) (omega (arith, c.requires.1.fx_small)), weight-small c.args.times c.args.fy (8 - c.args.fx) c.requires.0 (omega (arith, c.requires.1.fy_small)) (omega arith), weight-small c.args.times c.args.fy c.args.fx c.requires.0 (omega (arith, c.requires.1.fy_small)) (omega (arith, c.requires.1.fx_small)))
