-- `slot_wrong`: a carried slot is off its grid where it isn't its own quantization; another isn't its filler.
-- Assumes nothing.
use mathlib.Core.Path.{◌≡◌, ◌∙◌, ap, sym}
use native.Mathlib.Omega.{arith}
use mir.Val.{SFits}
use Rattle.models.specs.Integers.{equal}
use mathlib.Core.Bool.{not}
use lib.IntN.{ℤ}
use mir.Syntax.{w64}
use mir.Facts.{to_z-of_z, sfits_widen}
use Rattle.grid.specs.Grid.{abs_bits, prec_bits, centre}
use Rattle.grid.specs.Inner.{off_grid}
use Rattle.models.specs.Models.{filler, slot_wrong}
use Rattle.models.proofs.Integers.{equal-bits}
use Rattle.models.proofs.OnGrid.{off-is-other}
use Rattle.models.proofs.slot_wrong.Goals as goal

pub returns-then-carries_slot : goal.returns-then-carries_slot
unfolding slot_wrong
returns-then-carries_slot c = let a = c.args in
    rw (sym c.carries_slot.ensures ∙ c.if-carries_slot.true)
    (c.off_grid.ensures
    ∙ ap (λ (z : ℤ). off_grid (abs_bits a.gm_type a.flag a.slot) (prec_bits a.gm_type a.flag a.slot) (centre a.slot) z) (to_z-of_z c.ranges.z)
    ∙ off-is-other a.gm_type a.flag a.slot a.z)

pub returns : goal.returns
unfolding slot_wrong
returns c = let a = c.args in
    let own : SFits w64 a.z = sfits_widen tt c.ranges.z in
    let filled : c.filler.result ≡ filler a.gm_type a.slot a.p2 a.p3 = rw (to_z-of_z c.ranges.p2, to_z-of_z c.ranges.p3) at c.filler.ensures in
    rw (sym c.carries_slot.ensures ∙ c.if-carries_slot.false, to_z-of_z c.ranges.z)
    (ap not (equal-bits w64 own (record { sfits = omega (arith, c.filler.type_inv) }) ∙ ap (equal a.z) filled))
