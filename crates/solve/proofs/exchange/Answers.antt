-- `solve::exchange`: a pivot that stands needs no exchange, and any other exchanges matrix and right side.
-- Assumes nothing.
use lib.Ieee.{nan}
use Rattle.solve.proofs.Rows.{stands, both-exchanged}
use Rattle.solve.specs.Elimination.{system}
use Rattle.solve.proofs.exchange.Goals as goal

pub returns-then-pivot-col : goal.returns-then-pivot-col
returns-then-pivot-col c = let e = c.args in
    stands e.size e.col e.pivot (system e.a.now e.b.now) c.if-pivot-col.true

pub returns : goal.returns
returns c = let e = c.args in
    both-exchanged e.size e.col e.pivot e.a.now e.b.now c.exchange_rows.ensures (c.swap.ensures.by_index.3 nan)
