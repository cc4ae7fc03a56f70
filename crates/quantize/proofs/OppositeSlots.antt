-- A rotation-zoom's slot 4, the negation of its quantized slot 3, is the nearest to the grid number of −[3]: both ends of the i32 range lie beyond the last codable number.
-- Assumes nothing.
use Prim.Native.Nat.{ℕ, ◌-◌, min}
use mathlib.Core.Bool.{Bool, true, false, not}
use mathlib.Core.Logic.{⊎_elim}
use mathlib.Core.Path.{◌≡◌, sym, ap, ◌∙◌}
use native.Mathlib.Nat.{add-zero}
use native.Mathlib.Omega.{arith}
use lib.IntN.{ℤ, pos, neg_ℤ, neg_ℤ-neg_ℤ}
use lib.Ieee.{Float, nan, binary64, neg}
use Rattle.laws.specs.Binary64.{◌⊗◌}
use Rattle.grid.specs.Grid.{quantize, quantized, nearest_ordinal}
use Rattle.grid.proofs.Fixed.{quantize-negative}
use Rattle.grid_number.specs.GridNumber.{limit, magnitude, held, below, rounded, grid_number, scale}
use Rattle.grid_number.proofs.Negation.{mul-neg, rounded-neg}

-- beyond 8,192 the nearest ordinal stays
ordinal-saturates : (n : ℕ) → nearest_ordinal 12 15 n ≡ nearest_ordinal 12 15 (min n (limit - 1))
unfolding nearest_ordinal
ordinal-saturates n = omega arith

saturates : (n : ℕ) → quantize 12 15 0 (pos n) ≡ quantize 12 15 0 (pos (min n (limit - 1)))
unfolding quantize
saturates n = rw (add-zero n, add-zero (min n 2147483647), ordinal-saturates n)

sides : (s : Bool) (n : ℕ) → quantize 12 15 0 (held (not s) n) ≡ neg_ℤ (quantize 12 15 0 (held s n))
sides false n = quantize-negative 12 15 (pos n) ∙ ap neg_ℤ (saturates n)
sides true n = sym (saturates n) ∙ sym (neg_ℤ-neg_ℤ (quantize 12 15 0 (pos n))) ∙ ap neg_ℤ (sym (quantize-negative 12 15 (pos n)))

opposite : (y : Float) → quantize 12 15 0 (rounded (neg y)) ≡ neg_ℤ (quantize 12 15 0 (rounded y))
unfolding rounded neg magnitude
opposite y =
    ⊎_elim
    (λ (e : y ≡ nan). ap (λ (x : Float). quantize 12 15 0 (rounded (neg x))) e ∙ quantize-negative 12 15 (pos 0) ∙ ap (λ (x : Float). neg_ℤ (quantize 12 15 0 (rounded x))) (sym e))
    (λ (e : rounded (neg y) ≡ held (not (below y)) (magnitude y)). ap (λ (z : ℤ). quantize 12 15 0 z) e ∙ sides (below y) (magnitude y))
    (rounded-neg y)

pub slot-four-opposite : (flag : ℕ) (m3 : Float) → quantized 2 flag 4 (grid_number (neg m3)) ≡ neg_ℤ (quantized 2 flag 3 (grid_number m3))
slot-four-opposite flag m3 = rw (mul-neg binary64 m3 scale) (opposite (m3 ⊗ scale))
