use mathlib.Core.Path.{refl}
use Rattle.cost.proofs.Bounded.{fill_none, fill_more}
use Rattle.stage.proofs.NoneWins.{columns-are}
use native.Mathlib.Omega.{arith}
use Rattle.coarse.proofs.column_costs.Goals as goal

pub loop-x-init : goal.loop-x-init
loop-x-init c = fill_none _ _ _ _ _ refl

pub magnitude-requires : goal.magnitude-requires
magnitude-requires c = record { n_bound = omega (arith, c.loop-x-test.true); bias_bound = omega arith }

pub loop-x-preserved : goal.loop-x-preserved
loop-x-preserved c = fill_more c.loop-x.invariant c.loop-x-test.true c.magnitude.ensures.same (omega arith)

pub returns : goal.returns
returns c = columns-are c.loop-x.invariant (omega arith)
