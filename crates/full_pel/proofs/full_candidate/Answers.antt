-- `full_candidate`: the k-th offset of 7 × 7 around the centre, its sum from the offset on.
-- Assumes nothing.
use Rattle.stage.proofs.Turns.{full-stays, full-next}
use Rattle.full_pel.proofs.full_candidate.Goals as goal

pub returns-then-k : goal.returns-then-k
returns-then-k c = let a = c.args in
    full-stays a.block.now a.window.now a.best a.centre a.k c.if-k.true

pub returns : goal.returns
returns c = let a = c.args in
    full-next a.block.now a.window.now a.best a.centre a.k c.if-k.false
    c.offset_cost-start.ensures.same c.sad_int-new.ensures c.better.ensures
