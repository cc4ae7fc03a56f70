-- `Model::write`: the type's bits are written, and the slots' right behind them.
-- Assumes nothing.
use Rattle.bits.proofs.Buffer.{room-front, room_back, wrote-both}
use Rattle.header.specs.Writing.{type_bits, model_bits, reference_bits}
use Rattle.header.proofs.Model.write.Goals as goal

pub write_type-next-requires : goal.write_type-next-requires
unfolding reference_bits
write_type-next-requires c = let m = c.args.self in
    room-front _ _ (type_bits m.gm_type) (model_bits m.flag m.params.now m.prior.now m.gm_type m.first) c.requires.room

pub write_slots-requires-clause-room : goal.write_slots-requires-clause-room
unfolding reference_bits
write_slots-requires-clause-room c = let m = c.args.self in
    room_back _ _ (type_bits m.gm_type) (model_bits m.flag m.params.now m.prior.now m.gm_type m.first) _ _ c.write_type-next.ensures c.requires.room

pub returns : goal.returns
unfolding reference_bits
returns c = let m = c.args.self in
    wrote-both (type_bits m.gm_type) (model_bits m.flag m.params.now m.prior.now m.gm_type m.first) c.write_type-next.ensures c.write_slots.ensures
