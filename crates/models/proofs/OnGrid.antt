-- A carried number that is off its slot's grid is one that isn't its own quantization.
-- Assumes nothing.
use Prim.Native.Nat.{ℕ}
use mathlib.Core.Bool.{true, false, not}
use mathlib.Core.Logic.{⊎_elim}
use mathlib.Core.Path.{◌≡◌, sym, ap, ◌∙◌}
use lib.IntN.{ℤ}
use Rattle.laws.proofs.Cases.{outcome}
use Rattle.grid.specs.Grid.{abs_bits, prec_bits, centre, quantized}
use Rattle.grid.specs.Inner.{off_grid}
use Rattle.grid.proofs.OffGrid.{own-on-grid, other-off-grid}
use Rattle.models.specs.Integers.{equal}
use Rattle.models.proofs.Integers.{equal-same, same-equal}

pub off-is-other : (gm_type flag slot : ℕ) (z : ℤ) → off_grid (abs_bits gm_type flag slot) (prec_bits gm_type flag slot) (centre slot) z ≡ not (equal z (quantized gm_type flag slot z))
off-is-other gm_type flag slot z =
    ⊎_elim
    (λ (t : off_grid (abs_bits gm_type flag slot) (prec_bits gm_type flag slot) (centre slot) z ≡ true).
    t
    ∙ sym
    (⊎_elim
    (λ (e : equal z (quantized gm_type flag slot z) ≡ true).
    absurd (other-off-grid (abs_bits gm_type flag slot) (prec_bits gm_type flag slot) (centre slot) z t (sym (same-equal z (quantized gm_type flag slot z) e))))
    (λ (e : equal z (quantized gm_type flag slot z) ≡ false). ap not e)
    (outcome (equal z (quantized gm_type flag slot z)))))
    (λ (t : off_grid (abs_bits gm_type flag slot) (prec_bits gm_type flag slot) (centre slot) z ≡ false).
    t ∙ sym (ap not (equal-same z (quantized gm_type flag slot z) (sym (own-on-grid (abs_bits gm_type flag slot) (prec_bits gm_type flag slot) (centre slot) z t)))))
    (outcome (off_grid (abs_bits gm_type flag slot) (prec_bits gm_type flag slot) (centre slot) z))
