use mathlib.Core.Path.{refl}
use native.Mathlib.Omega.{arith}
use Rattle.plane.proofs.Listing.{listing-more, listing-all}
use Rattle.practice_planes.specs.Inner.{moved}
use Rattle.practice_planes.proofs.move_row.Goals as goal

pub loop-c-init : goal.loop-c-init
loop-c-init c = refl

pub displaced-requires : goal.displaced-requires
displaced-requires c = let p = c.requires in
    record {
      wide = omega arith;
      high = omega arith;
      small = p.moved_row.small;
      pels = p.moved_row.pels;
      close = record { r_small = omega arith; c_small = omega arith; y_small = omega arith; x_small = omega arith };
    }

pub loop-c-preserved : goal.loop-c-preserved
loop-c-preserved c = let a = c.args in
    listing-more (moved a.reference.now a.row a.by) a.out.now c.loop-c.c (omega arith) c.loop-c.invariant c.displaced.ensures

pub returns : goal.returns
returns c = let a = c.args in
    listing-all (moved a.reference.now a.row a.by) a.out.now {i = c.loop-c.c} (omega arith) refl c.loop-c.invariant
