-- `Model::write_type`: the field's bits are the type's.
-- Assumes nothing.
use native.Mathlib.Omega.{arith}
use Rattle.bits.proofs.Words.{room-field}
use Rattle.header.specs.Writing.{type_bits}
use Rattle.header.proofs.Model.write_type.Goals as goal

pub write_bits-requires : goal.write_bits-requires
write_bits-requires c = let a = c.args in
    let f = c.type_field-field in
    (omega (arith, f.ensures.1), room-field a.header.now a.cursor.at f.result (type_bits a.self.gm_type) f.ensures.0 c.requires)
