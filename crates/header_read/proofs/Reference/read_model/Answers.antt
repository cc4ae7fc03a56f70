-- `Reference::read_model`: the numbers of the carried slots, then the six that follow from them.
-- Assumes nothing.
use mathlib.Core.Path.{refl}
use Rattle.bits.specs.Bits.{bit_at}
use Rattle.header_read.proofs.Composed.{modelled}
use Rattle.header_read.proofs.Reference.read_model.Goals as goal

pub six_filled-six-requires : goal.six_filled-six-requires
six_filled-six-requires c = c.read_slots-read.ensures.small

pub returns : goal.returns
returns c = let s = c.args.self in
    let r = c.read_slots-read in
    modelled (bit_at s.header.now) s.flag s.prior.now s.first c.args.cursor.at c.args.gm_type r.result _ r.ensures refl c.six_filled-six.ensures refl
