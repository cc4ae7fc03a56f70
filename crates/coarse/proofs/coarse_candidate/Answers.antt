-- `coarse_candidate`: the candidate at row y, column x of 25 × 25, its sum from the offset on.
-- Assumes nothing.
use Rattle.stage.proofs.Turns.{coarse-stays, coarse-next}
use Rattle.coarse.proofs.coarse_candidate.Goals as goal

pub returns-then-y-x : goal.returns-then-y-x
returns-then-y-x c = let a = c.args in
    coarse-stays a.block.now a.window.now a.best a.y a.x c.if-y-x.true

pub returns : goal.returns
returns c = let a = c.args in
    coarse-next a.block.now a.window.now a.best a.y a.x c.requires.y_bound.1 c.if-y-x.false
    c.offset_cost-start.ensures.same c.sad_half-new.ensures c.better.ensures
