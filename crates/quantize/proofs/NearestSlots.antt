-- For each grid number of a fitted model, the quantized number of its slot is the nearest codable one; a rotation-zoom's slots 4 and 5 by −[3] and [2] of its fit.
-- Assumes nothing.
use Prim.Native.Nat.{ℕ, zero, suc, ◌≤◌, ◌<◌}
use mathlib.Core.List.{List}
use mathlib.Core.Logic.{◌⊎◌, ⊎_elim}
use mathlib.Core.Path.{◌≡◌, refl, subst}
use native.Mathlib.Omega.{arith}
use lib.IntN.{ℤ, neg_ℤ}
use lib.Ieee.{Float, neg}
use Rattle.grid.specs.Grid.{abs_bits, prec_bits, centre, quantized, quantize, ordinal_of}
use Rattle.grid.proofs.Table.{row-nearest}
use Rattle.fit.specs.declared.Fitted.{Fitted}
use Rattle.fit.specs.declared.Fitted.TheVariants.{Refused, Translation, RotZoom, Affine}
use Rattle.fit.specs.Fitted.{type_of}
use Rattle.grid_number.specs.GridNumber.{grid_number}
use Rattle.score.specs.Score.{slot}
use Rattle.quantize.specs.Quantize.{linear_of, refitted, params, params_from, slot_of}
use Rattle.quantize.specs.OnGrid.{grid_number_at, NearestAt}
use Rattle.quantize.proofs.OppositeSlots.{slot-four-opposite}
use Rattle.quantize.proofs.OnGrid.{each-of-six}

-- the slots that have a grid number: two of a TRANSLATION, six of the other types
abbrev pub HasGridNumber : Fitted → ℕ → Type 0
HasGridNumber f i = (i < 6) × ((i < 2) ⊎ (2 ≤ type_of f))

slot-nearest : (gm_type flag i : ℕ) (z : ℤ) → NearestAt gm_type flag i z (quantized gm_type flag i z)
unfolding quantize
slot-nearest gm_type flag i z =
    record {
      ordinal = ordinal_of (abs_bits gm_type flag i) (prec_bits gm_type flag i) (centre i) z;
      nearest = row-nearest gm_type flag i z;
      is = refl;
    }

opposite-nearest : (flag : ℕ) (m3 : Float) → NearestAt 2 flag 4 (grid_number (neg m3)) (neg_ℤ (slot_of 2 flag 3 m3))
opposite-nearest flag m3 =
    subst (λ (z : ℤ). NearestAt 2 flag 4 (grid_number (neg m3)) z) (slot-four-opposite flag m3)
    (slot-nearest 2 flag 4 (grid_number (neg m3)))

pub quantized-nearest : (f : Fitted) (flag : ℕ) (ws : List ℕ) (i : ℕ) → (type_of f ≡ 0 → ⊥) → HasGridNumber f i
    → NearestAt (type_of f) flag i (grid_number_at f flag ws i) (slot (params f flag ws) i)
unfolding params_from linear_of
quantized-nearest (Refused n) flag ws i m h = absurd (m refl)
quantized-nearest (Translation m0 m1) flag ws zero m h = slot-nearest 1 flag 0 (grid_number (refitted (linear_of (Translation m0 m1) flag) ws).u)
quantized-nearest (Translation m0 m1) flag ws (suc zero) m h = slot-nearest 1 flag 1 (grid_number (refitted (linear_of (Translation m0 m1) flag) ws).v)
quantized-nearest (Translation m0 m1) flag ws (suc (suc i)) m h =
    absurd (⊎_elim (λ (l : suc (suc i) < 2). let x : ⊥ = omega arith in x) (λ (l : 2 ≤ 1). let x : ⊥ = omega arith in x) h.1)
quantized-nearest (RotZoom m0 m1 m2 m3) flag ws i m h =
    let f = RotZoom m0 m1 m2 m3 in
    let t = refitted (linear_of f flag) ws in
    each-of-six (λ (j : ℕ) (z : ℤ). NearestAt 2 flag j (grid_number_at f flag ws j) z)
    (slot_of 2 flag 0 t.u) (slot_of 2 flag 1 t.v) (slot_of 2 flag 2 m2) (slot_of 2 flag 3 m3) (neg_ℤ (slot_of 2 flag 3 m3)) (slot_of 2 flag 2 m2)
    (slot-nearest 2 flag 0 (grid_number t.u)) (slot-nearest 2 flag 1 (grid_number t.v))
    (slot-nearest 2 flag 2 (grid_number m2)) (slot-nearest 2 flag 3 (grid_number m3)) (opposite-nearest flag m3) (slot-nearest 2 flag 5 (grid_number m2))
    i h.0
quantized-nearest (Affine m0 m1 m2 m3 m4 m5) flag ws i m h =
    let f = Affine m0 m1 m2 m3 m4 m5 in
    let t = refitted (linear_of f flag) ws in
    each-of-six (λ (j : ℕ) (z : ℤ). NearestAt 3 flag j (grid_number_at f flag ws j) z)
    (slot_of 3 flag 0 t.u) (slot_of 3 flag 1 t.v) (slot_of 3 flag 2 m2) (slot_of 3 flag 3 m3) (slot_of 3 flag 4 m4) (slot_of 3 flag 5 m5)
    (slot-nearest 3 flag 0 (grid_number t.u)) (slot-nearest 3 flag 1 (grid_number t.v))
    (slot-nearest 3 flag 2 (grid_number m2)) (slot-nearest 3 flag 3 (grid_number m3)) (slot-nearest 3 flag 4 (grid_number m4)) (slot-nearest 3 flag 5 (grid_number m5))
    i h.0
