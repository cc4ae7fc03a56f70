-- `sad_half`: each turn adds a row of every lane and counts those that go on; the lanes end as each would alone.
-- Assumes nothing.
use Rattle.lanes.specs.Inner.{lane_cost}
use Rattle.lanes.proofs.Lanes.{Together}
use Rattle.lanes.proofs.sad_half.Given as goal

abbrev pub invariant-loop-i : goal.invariant-loop-i
invariant-loop-i l = Together l.best l.initial.costs (lane_cost l.spread l.window l.at.y l.at.x) 8 8 524280 l.i l.costs l.rows l.going
