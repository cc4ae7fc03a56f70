-- `weigh`: the whole sum is at most 255 · 256, and no part is more.
-- Assumes nothing.
use mathlib.Core.Path.{refl}
use Rattle.blend.proofs.Weighed.{weighed-le}
use native.Mathlib.Omega.{arith}
use Rattle.blend.proofs.weigh.Goals as goal

pub overflow_mul-result : goal.overflow_mul-result
overflow_mul-result c = omega (arith, weighed-le 256 c.args.w c.args.a c.args.b c.args.c c.args.d c.requires.weighs c.requires.four)

pub overflow_mul-result-2 : goal.overflow_mul-result-2
overflow_mul-result-2 c = omega (arith, weighed-le 256 c.args.w c.args.a c.args.b c.args.c c.args.d c.requires.weighs c.requires.four)

pub overflow_add-result : goal.overflow_add-result
overflow_add-result c = omega (arith, weighed-le 256 c.args.w c.args.a c.args.b c.args.c c.args.d c.requires.weighs c.requires.four)

pub overflow_mul-result-3 : goal.overflow_mul-result-3
overflow_mul-result-3 c = omega (arith, weighed-le 256 c.args.w c.args.a c.args.b c.args.c c.args.d c.requires.weighs c.requires.four)

pub overflow_add-result-2 : goal.overflow_add-result-2
overflow_add-result-2 c = omega (arith, weighed-le 256 c.args.w c.args.a c.args.b c.args.c c.args.d c.requires.weighs c.requires.four)

pub overflow_mul-result-4 : goal.overflow_mul-result-4
overflow_mul-result-4 c = omega (arith, weighed-le 256 c.args.w c.args.a c.args.b c.args.c c.args.d c.requires.weighs c.requires.four)

pub overflow_add-result-3 : goal.overflow_add-result-3
overflow_add-result-3 c = omega (arith, weighed-le 256 c.args.w c.args.a c.args.b c.args.c c.args.d c.requires.weighs c.requires.four)

pub returns : goal.returns
returns c = refl
