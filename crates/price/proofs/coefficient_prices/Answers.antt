-- `coefficient_prices`: a refused call lists nothing, and an accepted one has the list of its slot's abs_bits.
-- Assumes nothing.
use Prim.Native.Nat.{ℕ}
use mathlib.Core.Path.{◌≡◌, sym, ap, subst, ◌∙◌}
use native.Mathlib.Omega.{arith}
use mir.Facts.{to_z-of_z}
use Rattle.laws.proofs.Call.{answered-accepted, answered-refused}
use Rattle.refusal.proofs.Rows.{above-zero}
use Rattle.grid.specs.Grid.{param_bits}
use Rattle.grid.specs.declared.ParamBits.{ParamBits}
use Rattle.price.specs.Call.{rejected, price_refusal, price_list}
use Rattle.price.specs.Inner.{Bits}
use Rattle.price.proofs.Accepted.{abs_bits-listed, prices-listed}
use Rattle.price.proofs.coefficient_prices.Goals as goal

-- the bits of the slot that are asked of the grid
asked : (gm_type flag slot : ℕ) (b : ParamBits) → b ≡ param_bits gm_type flag slot → Bits b.abs_bits
asked gm_type flag slot b e = subst (λ (x : ParamBits). Bits x.abs_bits) (sym e) (abs_bits-listed gm_type flag slot)

pub lengths_of-requires : goal.lengths_of-requires
lengths_of-requires c = let a = c.args in
    asked a.gm_type a.flag a.slot _ c.global_param_bits-bits.ensures

pub ordinals_of-requires : goal.ordinals_of-requires
ordinals_of-requires c = let a = c.args in
    asked a.gm_type a.flag a.slot _ c.global_param_bits-bits.ensures

pub returns-in-Ok : goal.returns-in-Ok
unfolding price_list
returns-in-Ok c = let a = c.args in
    let is = c.in-Ok.ensures ∙ ap (price_refusal a.gm_type a.flag a.slot) (to_z-of_z c.ranges.prior) in
    rw (
      c.lengths_of.ensures.0,
      c.ordinals_of.ensures,
      c.global_param_bits-bits.ensures,
      ← prices-listed a.gm_type a.flag a.slot a.prior (sym is),
    )
    (sym (answered-accepted rejected (price_refusal a.gm_type a.flag a.slot a.prior) _ (sym is)))

pub returns-in-Err : goal.returns-in-Err
unfolding price_list
returns-in-Err c = let a = c.args in
    let is = c.number.ensures ∙ c.in-Err.ensures ∙ ap (price_refusal a.gm_type a.flag a.slot) (to_z-of_z c.ranges.prior) in
    rw (← is) (sym (answered-refused rejected c.number.result _ (λ z. omega (arith, above-zero c.in-Err.refusal, c.number.ensures, z))))
