-- `sample::centres`: the closure ran at each place.
-- Assumes nothing.
use lib.Ieee.{nan}
use Rattle.std.proofs.Common.{rules}
use Rattle.sample.proofs.centres.Goals as goal

pub returns : goal.returns
returns c = record { at = λ k h. let w = c.from_fn.ensures.items.at k nan h in search rules }
