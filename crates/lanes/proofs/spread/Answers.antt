use Prim.Native.Nat.{◌/◌}
use mathlib.Core.Path.{refl}
use lib.ListN.{get_or}
use Rattle.plane.proofs.Listing.{listing-more, listing-all}
use Rattle.lanes.specs.Inner.{spread_of}
use native.Mathlib.Omega.{arith}
use Rattle.lanes.proofs.spread.Goals as goal

pub loop-i-preserved : goal.loop-i-preserved
loop-i-preserved c = listing-more (λ k. get_or c.args.block.now (k / 8) 0) c.args.out.now c.loop-i.i (omega arith) c.loop-i.invariant refl

pub returns : goal.returns
unfolding spread_of
returns c = listing-all (λ k. get_or c.args.block.now (k / 8) 0) c.args.out.now {i = c.loop-i.i} (omega arith) c.requires c.loop-i.invariant
