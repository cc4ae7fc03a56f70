use borrow.Author.Tests.{leb-true}
use Rattle.lanes.proofs.Lanes.{highest-none, highest-more, highest-low}
use native.Mathlib.Omega.{arith}
use Rattle.lanes.proofs.all_low.Goals as goal

pub loop-pel-init : goal.loop-pel-init
loop-pel-init c = highest-none _ _

pub loop-pel-preserved : goal.loop-pel-preserved
loop-pel-preserved c = highest-more c.loop-pel.invariant (omega arith) (omega arith) (omega arith)

pub returns : goal.returns
returns c = record { then = λ e. highest-low c.loop-pel.invariant (omega arith) (leb-true c.loop-pel.highest 8191 e) }
