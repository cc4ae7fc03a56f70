use mathlib.Core.Path.{sym, ◌∙◌}
use native.Mathlib.Omega.{arith}
use Rattle.laws.proofs.Below.{found, ends}
use Rattle.models.specs.Models.{slot_at, model_wrong}
use Rattle.models.proofs.slots_wrong.Goals as goal

pub returns-then-slot_at : goal.returns-then-slot_at
unfolding model_wrong
returns-then-slot_at c = let a = c.args in
    sym (found (slot_at a.gm_type a.flag a.params.now a.first) 6 c.loop-slot.slot (omega arith) (sym c.slot_at.ensures ∙ c.if-slot_at.true))

pub returns : goal.returns
unfolding model_wrong
returns c = let a = c.args in
    sym (ends (slot_at a.gm_type a.flag a.params.now a.first) 6 c.loop-slot.slot (omega arith) (omega arith) c.loop-slot.invariant)
