-- `reduce`: at most 512 steps of 64.
-- Assumes nothing.
use native.Mathlib.Omega.{arith}
use lib.IntN.{pos}
use mir.Syntax.{w64}
use mir.Facts.{to_z-of_z}
use Rattle.laws.proofs.Signed.{result-reads}
use Rattle.divisor.proofs.Products.{nat_abs-product}
use Rattle.divisor.proofs.Rounding.{reduced-small}
use Rattle.warp.proofs.reduce.Goals as goal

pub product-requires : goal.product-requires
product-requires c =
    rw (result-reads w64 c.round2_signed.result c.round2_signed.type_inv, c.round2_signed.ensures.is, to_z-of_z c.ranges.x)
    (omega (arith, reduced-small c.args.x c.requires))

pub returns-clause-small : goal.returns-clause-small
returns-clause-small c = let rounded = c.round2_signed in
    rw (
      result-reads w64 c.product.result c.product.type_inv,
      c.product.ensures,
      result-reads w64 rounded.result rounded.type_inv,
      nat_abs-product rounded.result (pos 64),
      rounded.ensures.is,
      to_z-of_z c.ranges.x,
    )
    (omega (arith, reduced-small c.args.x c.requires))
