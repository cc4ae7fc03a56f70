-- `read_global_motion`: of a key frame the identities; of an inter frame what the reader of its header gives.
-- Assumes nothing.
use mathlib.Core.Path.{sym, ◌∙◌}
use Rattle.frame_header.proofs.Inter.{inter-models}
use Rattle.frame_header.proofs.Intra.{key-models}
use Rattle.frame_header.proofs.read_global_motion.Goals as goal

pub returns-then-intra : goal.returns-then-intra
returns-then-intra c = let a = c.args in
    rw c.if-intra.true (c.key_models.ensures ∙ sym (key-models a.header.now a.at a.flag a.prior.now))

pub returns : goal.returns
returns c = let a = c.args in
    rw c.if-intra.false (c.read_global_motion_params.ensures ∙ sym (inter-models a.header.now a.at a.flag a.prior.now))
