-- `filler`: ROTZOOM's pair and the identity value are told apart by the definition's tests, and fit 64 bits. Assumes nothing.
use native.Mathlib.Omega.{arith}
use borrow.Author.Tests.{ne_eqb}
use lib.IntN.{ℤ, neg_ℤ, +ℤ_idl}
use mir.Syntax.{w32, w64}
use mir.Val.{SFits}
use mir.Facts.{to_z-of_z, to_z_pos}
use Rattle.laws.proofs.Signed.{nat_abs-neg, sfits-nat_abs, i32-nat_abs, i32-reads-as-i64}
use Rattle.models.specs.Models.{filler}
use Rattle.models.proofs.filler.Goals as goal

turned : {z : ℤ} → SFits w32 z → SFits w64 (neg_ℤ z)
turned {z} f = sfits-nat_abs w64 (neg_ℤ z) (omega (arith, nat_abs-neg z, i32-nat_abs f))

pub returns-in-2-eq4 : goal.returns-in-2-eq4
unfolding filler
returns-in-2-eq4 c =
    rw (i32-reads-as-i64 c.ranges.p3, +ℤ_idl (neg_ℤ c.args.p3), to_z-of_z (turned c.ranges.p3), c.in-2-eq4.is-0, c.in-2-eq4.is-1)

pub returns-in-2-default : goal.returns-in-2-default
unfolding filler
returns-in-2-default c = rw (i32-reads-as-i64 c.ranges.p2, c.in-2-default.is-0, ne_eqb _ _ c.in-2-default.is-1.1)

pub returns-in_default : goal.returns-in_default
unfolding filler
returns-in_default c = rw (to_z_pos w64 {n = c.centre_of.result} (omega arith), c.centre_of.ensures, ne_eqb _ _ c.in_default.is-0.1)
