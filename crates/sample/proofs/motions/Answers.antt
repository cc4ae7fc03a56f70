-- `sample::motions`: the closure ran at each stored motion.
-- Assumes nothing.
use lib.Ieee.{nan}
use Rattle.std.proofs.Common.{rules}
use Rattle.sample.proofs.motions.Goals as goal

pub returns : goal.returns
returns c = let items = c.from_fn.ensures.items in (record { at = λ k h. let w = items.at k nan h in search rules }, items.long)
