-- `elect::is_identity`: six numbers that type 0 may hold.
-- Assumes nothing.
use mathlib.Core.Bool.{Bool, not}
use mathlib.Core.Path.{ap}
use Rattle.elect.proofs.is_identity.Goals as goal

pub returns : goal.returns
returns c = ap (λ (b : Bool). not b) c.model_wrong.ensures
