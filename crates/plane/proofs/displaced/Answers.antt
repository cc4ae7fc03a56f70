-- `displaced`: both coordinates are clamped.
-- Assumes nothing.
use Rattle.plane.proofs.Clamped.{displaced-is}
use Rattle.plane.proofs.displaced.Goals as goal

pub returns : goal.returns
returns c = let a = c.args in
    rw (
      displaced-is a.plane.now a.place a.bias a.by.y a.by.x,
      ← c.clamp-row.ensures,
      ← c.clamp-column.ensures,
      ← c.row_start-at.ensures.same,
    )
