-- `encode_global_motion`: of a key frame the refusal alone and the bytes as they were; of an inter frame what the writer of its header gives.
-- Assumes nothing.
use mathlib.Core.Path.{ap, sym, ◌∙◌}
use lib.ListN.{length}
use Rattle.header.specs.Writing.{not_written}
use Rattle.frame_header.proofs.Inter.{inter-written, inter-after}
use Rattle.frame_header.proofs.Intra.{key-written, key-after}
use Rattle.frame_header.proofs.encode_global_motion.Goals as goal

pub returns-then-intra : goal.returns-then-intra
returns-then-intra c = let a = c.args in
    rw c.if-intra.true (record { value = ap not_written (c.refusal_number-refusal.ensures ∙ c.key_refusal.ensures) ∙ sym (key-written a.types.now a.params.now a.flag a.prior.now a.start (length a.header.now)); header_after = sym (key-after a.types.now a.params.now a.flag a.prior.now a.start a.header.now) })

pub returns : goal.returns
returns c = let a = c.args in
    let w = c.encode_inter_global_motion.ensures in
    rw c.if-intra.false (record { value = w.value ∙ sym (inter-written a.types.now a.params.now a.flag a.prior.now a.start (length a.header.now)); header_after = w.header_after ∙ sym (inter-after a.types.now a.params.now a.flag a.prior.now a.start a.header.now) })
