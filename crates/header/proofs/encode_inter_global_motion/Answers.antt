-- `encode_inter_global_motion`: a refusal leaves the bytes; an accepted call knows that there is room.
-- Assumes nothing.
use mathlib.Core.Path.{sym, ◌∙◌}
use native.Mathlib.Omega.{arith}
use lib.ListN.{length}
use Rattle.refusal.proofs.Rows.{above-zero}
use Rattle.header.proofs.Accepted.{accepted, header-coded, refused, wrote}
use Rattle.header.proofs.encode_inter_global_motion.Goals as goal

pub returns-in-Err : goal.returns-in-Err
returns-in-Err c = let a = c.args in
    let both = refused a.types.now a.params.now a.flag a.prior.now a.start a.header.now _ (c.number.ensures ∙ c.in-Err.ensures) (λ z. omega (arith, above-zero c.in-Err.refusal, c.number.ensures, z)) in
    record { value = both.0; header_after = both.1 }

pub write_from-requires : goal.write_from-requires
write_from-requires c = let a = c.args in
    let k = accepted a.types.now a.params.now a.flag a.prior.now a.start (length a.header.now) (sym c.in-Ok.ensures) in
    (header-coded a.types.now a.params.now a.flag a.prior.now a.start (length a.header.now) k, k.low, k.roomy)

pub returns-in-Ok : goal.returns-in-Ok
returns-in-Ok c = let a = c.args in
    let both = wrote a.types.now a.params.now a.flag a.prior.now a.start a.header.now _ _ (sym c.in-Ok.ensures) c.write_from.ensures.0 c.write_from.ensures.1 in
    record { value = both.0; header_after = both.1 }
