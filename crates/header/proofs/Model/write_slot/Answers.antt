-- `Model::write_slot`: the value and the prior read at the slot are those whose bits the definition puts.
-- Assumes nothing.
use mir.Syntax.{w32}
use Rattle.laws.proofs.Signed.{result-reads}
use Rattle.header.specs.Writing.{slot_of}
use Rattle.header.proofs.RoundTrip.{carried-codable}
use Rattle.header.proofs.Model.write_slot.Goals as goal

pub write_global_param-requires : goal.write_global_param-requires
write_global_param-requires c = let e = c.before in
    let m = e.args.self in
    let p = e.requires in
    let slot = e.args.slot in
    rw (
      result-reads w32 (slot_of m.params.now m.first slot) c.value-1.given,
      result-reads w32 (slot_of m.prior.now m.first slot) c.from-1.given,
    ) (
      record {
        prior = record { known = p.carried.known; within = m.ready.priors.within slot p.carried.known };
        own = carried-codable m.gm_type m.flag m.params.now m.first p.right slot p.carried.known p.carried.is;
      },
      p.room,
    )

pub returns : goal.returns
returns c = let m = c.args.self in
    rw (
      result-reads w32 (slot_of m.params.now m.first c.args.slot) c.value-1.given,
      result-reads w32 (slot_of m.prior.now m.first c.args.slot) c.from-1.given,
    )
    at c.write_global_param.ensures
