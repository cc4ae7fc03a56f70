-- `sad_subpel`: a stored motion plus one is whole pels and eighths; each turn adds the next row's cost, and the sum has reached the best, or goes on.
-- Assumes nothing.
use Rattle.cost.specs.Inner.{bilinear_window_cost}
use Rattle.cost.proofs.Ended.{Left}
use Rattle.blend.specs.Inner.{window_from}
use Rattle.eighths.proofs.sad_subpel.Given as goal

abbrev pub invariant-loop-i : goal.invariant-loop-i
invariant-loop-i l = Left l.best 0 (bilinear_window_cost 16 24 l.block (window_from l.highs l.lows) l.y l.x l.fy l.fx) 16 1048560 l.i l.cost
