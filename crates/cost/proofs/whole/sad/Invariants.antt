-- `sad`: each turn adds the next row's cost; after it the sum has reached the best, or goes on.
-- Assumes nothing.
use Rattle.cost.proofs.Laid.{Laid}
use Rattle.cost.proofs.whole.sad.Given as goal

abbrev pub invariant-loop-i : goal.invariant-loop-i
invariant-loop-i g l = Laid g.row.N g.row.SIDE 1048560 l.block l.window l.at.y l.at.x l.best l.start l.i l.cost
