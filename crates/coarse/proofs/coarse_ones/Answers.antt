use Prim.Native.Nat.{◌+◌, ◌*◌}
use Rattle.stage.proofs.Turns.{begins, goes_on, ends}
use native.Mathlib.Omega.{arith}
use Rattle.coarse.proofs.coarse_ones.Goals as goal

pub loop-x-init : goal.loop-x-init
loop-x-init c = (begins _ _ _ _ _ (omega arith) (omega (arith, c.requires.y_bound.1)), omega arith, omega arith)

pub coarse_candidate-best-requires : goal.coarse_candidate-best-requires
coarse_candidate-best-requires c = let p = c.requires in
    let i = c.loop-x.invariant in record { coarse = p.coarse; y_bound = (omega (arith, c.loop-x-test.true, p.y_bound.0, p.to_bound.0), omega (arith, c.loop-x-test.true, p.y_bound.0, p.to_bound.0)); rows_bound = omega (arith, i.1, c.loop-x-test.true, p.to_bound.0, p.to_bound.1) }

pub loop-x-preserved : goal.loop-x-preserved
loop-x-preserved c = (
  goes_on (c.args.y * 25 + (c.loop-x.x + 1)) c.loop-x.invariant.0 (omega (arith, c.loop-x-test.true)) (omega arith) c.coarse_candidate-best.ensures.same,
  omega (arith, c.coarse_candidate-best.ensures.few, c.loop-x.invariant.1, c.loop-x.invariant.2),
  omega (arith, c.loop-x.invariant.2),
)

pub returns : goal.returns
returns c = record {
  same = ends c.loop-x.invariant.0 (omega arith);
  few = omega (arith, c.loop-x.invariant.0.within, c.loop-x.invariant.1, c.loop-x.invariant.2);
}
