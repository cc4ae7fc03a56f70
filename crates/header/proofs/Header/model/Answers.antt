-- `Header::model`: a reference's six numbers and their priors lie in their lists.
-- Assumes nothing.
use Rattle.header.proofs.RoundTrip.{model-ready}
use Rattle.header.proofs.Header.model.Goals as goal

pub invariant_of-result : goal.invariant_of-result
invariant_of-result c = let h = c.args.self in
    record { ready = model-ready h.types.now h.params.now h.prior.now c.args.r c.requires.0 c.requires.1 }
