-- `opposite`: a number that is small enough can be negated.
-- Assumes nothing.
use native.Mathlib.Omega.{arith}
use lib.IntN.{neg_ℤ, +ℤ_idl}
use mir.Facts.{to_z-of_z}
use mir.Syntax.{w32}
use Rattle.laws.proofs.Signed.{nat_abs-neg, sfits-nat_abs, reads-back}
use Rattle.header_read.proofs.opposite.Goals as goal

pub overflow_sub-result : goal.overflow_sub-result
overflow_sub-result c = rw (to_z-of_z c.ranges.value, +ℤ_idl (neg_ℤ c.args.value)) (sfits-nat_abs w32 (neg_ℤ c.args.value) (rw (nat_abs-neg c.args.value) (omega (arith, c.requires))))

pub returns : goal.returns
returns c = rw (to_z-of_z c.ranges.value, +ℤ_idl (neg_ℤ c.args.value), reads-back w32 (neg_ℤ c.args.value) (rw (nat_abs-neg c.args.value) (omega (arith, c.requires))))
