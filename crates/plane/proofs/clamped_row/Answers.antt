use mathlib.Core.Path.{refl}
use native.Mathlib.Omega.{arith}
use Rattle.plane.specs.Inner.{row_pel}
use Rattle.plane.proofs.Listing.{listing-more, listing-all}
use Rattle.plane.proofs.clamped_row.Goals as goal

pub loop-b-preserved : goal.loop-b-preserved
loop-b-preserved c = let a = c.args in
    listing-more (row_pel a.plane.now a.place a.by a.bias) a.out.now c.loop-b.b (omega arith) c.loop-b.invariant c.displaced.ensures

pub returns : goal.returns
returns c = let a = c.args in
    listing-all (row_pel a.plane.now a.place a.by a.bias) a.out.now {i = c.loop-b.b} (omega arith) refl c.loop-b.invariant
