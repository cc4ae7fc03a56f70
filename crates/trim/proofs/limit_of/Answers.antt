-- `trim::limit_of`: the limit of the cutoff, which has no sign.
-- Assumes nothing.
use lib.ListN.{take}
use Rattle.trim.proofs.Roots.{cutoff-bare}
use Rattle.trim.proofs.limit_of.Goals as goal

pub square_limit-requires : goal.square_limit-requires
square_limit-requires c = rw c.cutoff_of.ensures (cutoff-bare (take c.args.n c.args.squares.now) c.requires.findable.plain)
