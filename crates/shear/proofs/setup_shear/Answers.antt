-- `setup_shear`: a refused call gives its row, and an accepted one has a codable linear part.
-- Assumes nothing.
use mathlib.Core.Path.{sym}
use native.Mathlib.Omega.{arith}
use mir.Syntax.{w64}
use Rattle.laws.proofs.Call.{answered-accepted, answered-refused}
use Rattle.laws.proofs.Signed.{result-reads}
use Rattle.refusal.specs.Number.{number_of}
use Rattle.refusal.proofs.Rows.{above-zero}
use Rattle.shear.specs.Call.{shear, rejected}
use Rattle.shear.proofs.Accepted.{accepted}
use Rattle.shear.proofs.setup_shear.Goals as goal

pub slot-requires : goal.slot-requires
slot-requires c = omega (arith, (accepted c.args.params.now c.args.gm_type (sym c.in-Ok.ensures)).0)

pub slot-requires-in-Ok : goal.slot-requires-in-Ok
slot-requires-in-Ok c = omega (arith, (accepted c.args.params.now c.args.gm_type (sym c.in-Ok.ensures)).0)

pub slot-requires-in-Ok-2 : goal.slot-requires-in-Ok-2
slot-requires-in-Ok-2 c = omega (arith, (accepted c.args.params.now c.args.gm_type (sym c.in-Ok.ensures)).0)

pub slot-requires-in-Ok-3 : goal.slot-requires-in-Ok-3
slot-requires-in-Ok-3 c = omega (arith, (accepted c.args.params.now c.args.gm_type (sym c.in-Ok.ensures)).0)

pub shear_of-requires : goal.shear_of-requires
shear_of-requires c =
    rw (
      result-reads w64 c.slot.result c.slot.type_inv,
      result-reads w64 c.slot-in-Ok.result c.slot-in-Ok.type_inv,
      result-reads w64 c.slot-in-Ok-2.result c.slot-in-Ok-2.type_inv,
      result-reads w64 c.slot-in-Ok-3.result c.slot-in-Ok-3.type_inv,
      c.slot.ensures,
      c.slot-in-Ok.ensures,
      c.slot-in-Ok-2.ensures,
      c.slot-in-Ok-3.ensures,
    )
    (accepted c.args.params.now c.args.gm_type (sym c.in-Ok.ensures)).1

pub returns-in-Ok : goal.returns-in-Ok
unfolding shear
returns-in-Ok c =
    rw (
      c.shear_of.ensures,
      result-reads w64 c.slot.result c.slot.type_inv,
      result-reads w64 c.slot-in-Ok.result c.slot-in-Ok.type_inv,
      result-reads w64 c.slot-in-Ok-2.result c.slot-in-Ok-2.type_inv,
      result-reads w64 c.slot-in-Ok-3.result c.slot-in-Ok-3.type_inv,
      c.slot.ensures,
      c.slot-in-Ok.ensures,
      c.slot-in-Ok-2.ensures,
      c.slot-in-Ok-3.ensures,
      ← c.in-Ok.ensures,
    )

pub returns-in-Err : goal.returns-in-Err
unfolding shear
returns-in-Err c =
    rw (c.refused.ensures, ← c.in-Err.ensures)
    (sym (answered-refused rejected (number_of c.in-Err.refusal) _ (λ z. let h = above-zero c.in-Err.refusal in omega (arith, h, z))))
