-- `next_row`: low pels or not, the same row is added.
-- Assumes nothing.

use Rattle.lanes.proofs.next_row.Goals as goal

pub low_row-requires : goal.low_row-requires
low_row-requires c = let p = c.requires in record { lane_row = p.lane_row; at_most = p.if_low.then c.if-low.true; at_most_2 = p.if_low_2.then c.if-low.true; room = p.room }

pub wide_row-requires : goal.wide_row-requires
wide_row-requires c = record { lane_row = c.requires.lane_row; room = c.requires.room }

pub returns-then-low : goal.returns-then-low
returns-then-low c = c.low_row.ensures

pub returns-else-low : goal.returns-else-low
returns-else-low c = c.wide_row.ensures
