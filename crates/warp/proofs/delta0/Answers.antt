-- `delta0`: product, quotient and differences stay within 64 bits, and the last is clamped.
-- Assumes nothing.
use Prim.Native.Nat.{◌^◌, ◌<◌}
use mathlib.Core.Path.{refl}
use native.Mathlib.Omega.{arith}
use lib.IntN.{ℤ, pos, nat_abs, ◌-ℤ◌, ◌*ℤ◌}
use mir.Syntax.{w64}
use mir.Val.{SFits}
use mir.Facts.{to_z-of_z}
use Rattle.laws.proofs.Signed.{result-reads, sfits-nat_abs, nat_abs-sub-le}
use Rattle.divisor.specs.Divisor.{divided_by}
use Rattle.warp.specs.Shear.{delta0}
use Rattle.divisor.specs.Inner.{Reach}
use Rattle.warp.proofs.Clamped.{clamped-small}
use Rattle.divisor.proofs.Products.{nat_abs-product, product-within}
use Rattle.divisor.proofs.Reach.{reach-divisor}
use Rattle.warp.proofs.delta0.Goals as goal

module _ (p q : ℤ) (h : Reach p) (s : nat_abs q < 2 ^ 62) where
  less-fits : SFits w64 (p -ℤ q)
  less-fits = sfits-nat_abs w64 (p -ℤ q) (omega (arith, nat_abs-sub-le p q, (reach-divisor p h).high))

  difference-fits : SFits w64 ((p -ℤ q) -ℤ pos 65536)
  difference-fits =
      sfits-nat_abs w64 ((p -ℤ q) -ℤ pos 65536)
      (omega (arith, nat_abs-sub-le (p -ℤ q) (pos 65536), nat_abs-sub-le p q, (reach-divisor p h).high))

pub returns-clause-is : goal.returns-clause-is
unfolding delta0
returns-clause-is c = let a = c.args in
    let product = c.product in
    let quotient = c.divided_by in
    rw (
      result-reads w64 c.clamp.result c.clamp.type_inv,
      c.clamp.ensures.is,
      to_z-of_z c.ranges.p5,
      result-reads w64 quotient.result quotient.type_inv,
      to_z-of_z (less-fits a.p5 quotient.result c.requires.slot5 quotient.ensures.small),
      to_z-of_z (difference-fits a.p5 quotient.result c.requires.slot5 quotient.ensures.small),
      quotient.ensures.is,
      result-reads w64 product.result product.type_inv,
      product.ensures,
      to_z-of_z c.ranges.p3,
      to_z-of_z c.ranges.p4,
      to_z-of_z c.ranges.p2,
    )
