-- Every quantized model is on the grid of its type: each slot codable, its uncarried slots and its pair right.
-- Assumes nothing.
use Prim.Native.Nat.{ℕ, zero, suc, ◌<◌, zero-le}
use mathlib.Core.List.{List, [], ◌∷◌}
use mathlib.Core.Path.{◌≡◌, refl, subst}
use native.Mathlib.Nat.{zero-mul, zero-add}
use native.Mathlib.Omega.{arith}
use lib.IntN.{ℤ, pos, neg_ℤ}
use lib.ListN.{length}
use lib.Ieee.{Float}
use Rattle.grid.specs.Grid.{abs_bits, prec_bits, centre, quantized, Codable}
use Rattle.grid.proofs.Table.{row-codable, row-negative}
use Rattle.fit.specs.declared.Fitted.{Fitted}
use Rattle.fit.specs.declared.Fitted.TheVariants.{Refused, Translation, RotZoom, Affine}
use Rattle.fit.specs.Fitted.{type_of}
use Rattle.grid_number.specs.GridNumber.{grid_number}
use Rattle.score.specs.Score.{slot}
use Rattle.quantize.specs.declared.Motion.{Motion}
use Rattle.quantize.specs.Quantize.{linear_of, refitted, params_of, params, params_from, slot_of}

-- ---- what it is to be on the grid

-- slots 2 to 5 of the identity
pub record IdentityLinear (p : List ℤ) : Type 0 where
  pub two : slot p 2 ≡ pos 65536
  pub three : slot p 3 ≡ pos 0
  pub four : slot p 4 ≡ pos 0
  pub five : slot p 5 ≡ pos 65536

pub record Pair (p : List ℤ) : Type 0 where
  pub four : slot p 4 ≡ neg_ℤ (slot p 3)
  pub five : slot p 5 ≡ slot p 2

-- a slot's own number
abbrev pub CodableAt : ℕ → ℕ → ℕ → ℤ → Type 0
CodableAt gm_type flag i z = Codable (abs_bits gm_type flag i) (prec_bits gm_type flag i) (centre i) z

-- every slot codable, the slots that a TRANSLATION doesn't carry those of the identity, a ROTZOOM's pair right
pub record OnGrid (gm_type flag : ℕ) (p : List ℤ) : Type 0 where
  pub six : length p ≡ 6
  pub codable : (i : ℕ) → i < 6 → CodableAt gm_type flag i (slot p i)
  pub translation : gm_type ≡ 1 → IdentityLinear p
  pub pair : gm_type ≡ 2 → Pair p

-- ---- any property of the six slots

module _ (P : ℕ → ℤ → Type 0) (a b c d e f : ℤ) where
  pub each-of-six : P 0 a → P 1 b → P 2 c → P 3 d → P 4 e → P 5 f → (i : ℕ) → i < 6 → P i (slot (a ∷ b ∷ c ∷ d ∷ e ∷ f ∷ []) i)
  each-of-six p0 p1 p2 p3 p4 p5 zero h = p0
  each-of-six p0 p1 p2 p3 p4 p5 (suc zero) h = p1
  each-of-six p0 p1 p2 p3 p4 p5 (suc (suc zero)) h = p2
  each-of-six p0 p1 p2 p3 p4 p5 (suc (suc (suc zero))) h = p3
  each-of-six p0 p1 p2 p3 p4 p5 (suc (suc (suc (suc zero)))) h = p4
  each-of-six p0 p1 p2 p3 p4 p5 (suc (suc (suc (suc (suc zero))))) h = p5
  each-of-six p0 p1 p2 p3 p4 p5 (suc (suc (suc (suc (suc (suc i)))))) h = absurd (omega arith)

-- a slot's centre is its ordinal 0
centre-codable : (gm_type flag i : ℕ) → CodableAt gm_type flag i (pos (centre i))
centre-codable gm_type flag i = record { ordinal = pos 0; in-range = record { within = zero-le }; is = rw (zero-mul, zero-add) }

opposite-codable : (flag : ℕ) (z : ℤ) → CodableAt 2 flag 4 (neg_ℤ (quantized 2 flag 3 z))
opposite-codable flag z = subst (λ (x : ℤ). CodableAt 2 flag 4 x) (row-negative 2 flag 3 z refl) (row-codable 2 flag 4 (neg_ℤ z))

-- ---- on the grid

on-grid-translation : (flag : ℕ) (t : Motion) → OnGrid 1 flag (params_of 1 flag (record { p2 = pos 65536; p3 = pos 0; p4 = pos 0; p5 = pos 65536 }) t)
on-grid-translation flag t =
    record {
      six = refl;
      codable =
          each-of-six (λ (i : ℕ) (z : ℤ). CodableAt 1 flag i z) (slot_of 1 flag 0 t.u) (slot_of 1 flag 1 t.v) (pos 65536) (pos 0) (pos 0) (pos 65536)
          (row-codable 1 flag 0 (grid_number t.u)) (row-codable 1 flag 1 (grid_number t.v))
          (centre-codable 1 flag 2) (centre-codable 1 flag 3) (centre-codable 1 flag 4) (centre-codable 1 flag 5);
      translation = λ e. record { two = refl; three = refl; four = refl; five = refl };
      pair = λ e. absurd (omega arith);
    }

on-grid-rotzoom : (flag : ℕ) (t : Motion) (m2 m3 : Float)
    → OnGrid 2 flag (params_of 2 flag (record { p2 = slot_of 2 flag 2 m2; p3 = slot_of 2 flag 3 m3; p4 = neg_ℤ (slot_of 2 flag 3 m3); p5 = slot_of 2 flag 2 m2 }) t)
on-grid-rotzoom flag t m2 m3 =
    record {
      six = refl;
      codable =
          each-of-six (λ (i : ℕ) (z : ℤ). CodableAt 2 flag i z)
          (slot_of 2 flag 0 t.u) (slot_of 2 flag 1 t.v) (slot_of 2 flag 2 m2) (slot_of 2 flag 3 m3) (neg_ℤ (slot_of 2 flag 3 m3)) (slot_of 2 flag 2 m2)
          (row-codable 2 flag 0 (grid_number t.u)) (row-codable 2 flag 1 (grid_number t.v))
          (row-codable 2 flag 2 (grid_number m2)) (row-codable 2 flag 3 (grid_number m3)) (opposite-codable flag (grid_number m3)) (row-codable 2 flag 5 (grid_number m2));
      translation = λ e. absurd (omega arith);
      pair = λ e. record { four = refl; five = refl };
    }

on-grid-affine : (flag : ℕ) (t : Motion) (m2 m3 m4 m5 : Float)
    → OnGrid 3 flag (params_of 3 flag (record { p2 = slot_of 3 flag 2 m2; p3 = slot_of 3 flag 3 m3; p4 = slot_of 3 flag 4 m4; p5 = slot_of 3 flag 5 m5 }) t)
on-grid-affine flag t m2 m3 m4 m5 =
    record {
      six = refl;
      codable =
          each-of-six (λ (i : ℕ) (z : ℤ). CodableAt 3 flag i z) (slot_of 3 flag 0 t.u) (slot_of 3 flag 1 t.v) (slot_of 3 flag 2 m2) (slot_of 3 flag 3 m3) (slot_of 3 flag 4 m4) (slot_of 3 flag 5 m5)
          (row-codable 3 flag 0 (grid_number t.u)) (row-codable 3 flag 1 (grid_number t.v))
          (row-codable 3 flag 2 (grid_number m2)) (row-codable 3 flag 3 (grid_number m3)) (row-codable 3 flag 4 (grid_number m4)) (row-codable 3 flag 5 (grid_number m5));
      translation = λ e. absurd (omega arith);
      pair = λ e. absurd (omega arith);
    }

pub quantized-on-grid : (f : Fitted) (flag : ℕ) (ws : List ℕ) → (type_of f ≡ 0 → ⊥) → OnGrid (type_of f) flag (params f flag ws)
unfolding params_from linear_of
quantized-on-grid (Refused n) flag ws h = absurd (h refl)
quantized-on-grid (Translation m0 m1) flag ws h = on-grid-translation flag (refitted (linear_of (Translation m0 m1) flag) ws)
quantized-on-grid (RotZoom m0 m1 m2 m3) flag ws h = on-grid-rotzoom flag (refitted (linear_of (RotZoom m0 m1 m2 m3) flag) ws) m2 m3
quantized-on-grid (Affine m0 m1 m2 m3 m4 m5) flag ws h = on-grid-affine flag (refitted (linear_of (Affine m0 m1 m2 m3 m4 m5) flag) ws) m2 m3 m4 m5
