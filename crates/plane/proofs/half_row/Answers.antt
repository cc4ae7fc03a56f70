use mathlib.Core.Path.{refl}
use native.Mathlib.Omega.{arith}
use Rattle.plane.specs.Inner.{half_of_rows}
use Rattle.plane.proofs.Listing.{listing-more, listing-all}
use Rattle.plane.proofs.half_row.Goals as goal

pub loop-c-preserved : goal.loop-c-preserved
loop-c-preserved c = let a = c.args in
    listing-more (half_of_rows a.top.now a.bottom.now) a.out.now c.loop-c.c (omega arith) c.loop-c.invariant c.half_pel.ensures

pub returns : goal.returns
returns c = let a = c.args in
    listing-all (half_of_rows a.top.now a.bottom.now) a.out.now {i = c.loop-c.c} (omega arith) refl c.loop-c.invariant
