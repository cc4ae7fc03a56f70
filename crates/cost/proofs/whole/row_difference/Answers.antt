use native.Mathlib.Omega.{arith}
use Rattle.cost.specs.Inner.{row_difference}
use Rattle.cost.proofs.Sum.{none, more, all}
use Rattle.cost.proofs.whole.row_difference.Goals as goal

pub loop-j-init : goal.loop-j-init
loop-j-init g c = none _ _ _

pub loop-j-preserved : goal.loop-j-preserved
loop-j-preserved g c = more c.loop-j.invariant (omega arith) c.absolute_difference-cost.ensures.same c.absolute_difference-cost.ensures.small

pub returns : goal.returns
unfolding row_difference
returns g c = all _ c.loop-j.invariant (omega arith) (omega arith)
