use Prim.Native.Nat.{◌+◌}
use mathlib.Core.Path.{refl}
use Rattle.cost.proofs.Bounded.{fill_none, fill_more}
use Rattle.stage.proofs.NoneWins.{offsets_are, offset-next, offset-small}
use native.Mathlib.Omega.{arith}
use Rattle.coarse.proofs.eight_offsets.Goals as goal

pub magnitude-row-requires : goal.magnitude-row-requires
magnitude-row-requires c = record { n_bound = omega (arith, c.requires.y_bound.0); bias_bound = omega arith }

pub loop-k-init : goal.loop-k-init
loop-k-init c = fill_none _ _ _ _ _ refl

pub overflow_add-costs : goal.overflow_add-costs
overflow_add-costs c = omega (arith, c.requires.y_bound.1, c.requires.columns.long)

pub offset_bounds-columns-x : goal.offset_bounds-columns-x
offset_bounds-columns-x c = omega (arith, c.requires.y_bound.1, c.requires.columns.long)

pub bounds-columns-x : goal.bounds-columns-x
bounds-columns-x c = omega (arith, c.requires.y_bound.1, c.requires.columns.long)

pub overflow_add-costs-in-loop-k : goal.overflow_add-costs-in-loop-k
overflow_add-costs-in-loop-k c = omega (arith, c.magnitude-row.ensures.small, c.requires.columns.each (c.args.x + c.loop-k.k) (omega (arith, c.requires.y_bound.1, c.loop-k-test.true)), c.requires.y_bound.1, c.loop-k-test.true)

pub offset_bounds-costs-k : goal.offset_bounds-costs-k
offset_bounds-costs-k c = omega (arith, c.requires.y_bound.1, c.requires.columns.long)

pub bounds-costs-k : goal.bounds-costs-k
bounds-costs-k c = omega (arith, c.requires.y_bound.1, c.requires.columns.long)

pub loop-k-preserved : goal.loop-k-preserved
loop-k-preserved c = let l = c.loop-k-test.true in
    let x = c.args.x in
    let k = c.loop-k.k in
    fill_more c.loop-k.invariant l (offset-next c.args.y x k c.requires.y_bound.1 l c.magnitude-row.ensures.same c.requires.columns) (offset-small c.args.y x k c.requires.y_bound.0 c.requires.y_bound.1 l)

pub returns : goal.returns
returns c = offsets_are c.args.y c.args.x c.loop-k.invariant (omega arith)
