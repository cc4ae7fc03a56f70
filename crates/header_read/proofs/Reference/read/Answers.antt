-- `Reference::read`: the type's bits are read, and the model's right behind them.
-- Assumes nothing.
use mathlib.Core.Path.{refl}
use native.Mathlib.Omega.{arith}
use Rattle.bits.specs.Bits.{bit_at}
use Rattle.header.specs.Reading.{model_read}
use Rattle.header_read.proofs.Composed.{referenced}
use Rattle.header_read.proofs.Reference.read.Goals as goal

pub read_model-requires : goal.read_model-requires
read_model-requires c = omega (arith, c.read_type-t.ensures.near)

pub returns : goal.returns
unfolding model_read
returns c = let s = c.args.self in
    referenced (bit_at s.header.now) s.flag s.prior.now s.first c.args.cursor.at
    c.read_type-t.result c.read_model.result _
    c.read_type-t.ensures c.read_model.ensures c.read_model.ensures.gm_type refl refl
