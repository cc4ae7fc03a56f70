-- `quantize::rotzoom_linear`: a number within 8,192 of zero can be negated.
-- Assumes nothing.
use Rattle.laws.proofs.Signed.{nat_abs-neg, sfits-nat_abs, reads-back}
use lib.IntN.{neg_ℤ, +ℤ_idl}
use native.Mathlib.Omega.{arith}
use mir.Facts.{to_z-of_z}
use mir.Syntax.{w32}
use Rattle.quantize.proofs.rotzoom_linear.Goals as goal

pub overflow_sub-result : goal.overflow_sub-result
overflow_sub-result c = rw (to_z-of_z c.ranges.p3, +ℤ_idl (neg_ℤ c.args.p3)) (sfits-nat_abs w32 (neg_ℤ c.args.p3) (rw (nat_abs-neg c.args.p3) (omega (arith, c.requires))))

pub returns : goal.returns
returns c = rw (to_z-of_z c.ranges.p3, to_z-of_z c.ranges.p2, +ℤ_idl (neg_ℤ c.args.p3), reads-back w32 (neg_ℤ c.args.p3) (rw (nat_abs-neg c.args.p3) (omega (arith, c.requires))))
