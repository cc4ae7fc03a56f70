-- What an accepted call knows: ROTZOOM or AFFINE, and slots 2 to 5 within the reach of their codable numbers.
-- Assumes nothing.
use Prim.Native.Nat.{ℕ, ◌≤◌, ◌<◌}
use mathlib.Core.Bool.{false}
use mathlib.Core.List.{List}
use mathlib.Core.Logic.{◌⊎◌, inl, inr, ⊎_elim}
use mathlib.Core.Path.{◌≡◌, sym, subst}
use native.Mathlib.Omega.{arith}
use borrow.Author.Tests.{ltb-false, not-false}
use lib.Dec.{ltb}
use lib.IntN.{ℤ, pos, nat_abs, ◌-ℤ◌, ◌*ℤ◌, +ℤ_idr, +ℤ-neg_ℤ_cancel}
use lib.ListN.{length, get_or}
use Rattle.laws.specs.Refusal.{choose}
use Rattle.laws.proofs.Refusal.{quiet, neither, length-is}
use Rattle.laws.proofs.Below.{each-fails}
use Rattle.laws.proofs.Cases.{eq-or-ne}
use Rattle.laws.proofs.Signed.{nat_abs-neg}
use Rattle.grid.specs.Grid.{Codable, quantized}
use Rattle.grid.proofs.Table.{row-codable}
use Rattle.models.specs.Models.{carries, filler, slot_wrong, slot_at, model_wrong}
use Rattle.models.proofs.Integers.{same-equal}
use Rattle.shear.specs.Call.{rows, shear_refusal}
use Rattle.warp.specs.Inner.{Linear}
use Rattle.divisor.specs.Inner.{Reach}
use Rattle.divisor.proofs.Products.{nat_abs-product}

-- a codable number of slots 2 to 5 is within 4,096 steps of 2 from its centre
codable-reach : (c : ℕ) (z : ℤ) → Codable 12 15 c z → nat_abs (z -ℤ pos c) ≤ 8192
codable-reach c z g =
    rw (g.is, +ℤ-neg_ℤ_cancel (g.ordinal *ℤ pos 2) (pos c), nat_abs-product g.ordinal (pos 2))
    (omega (arith, g.in-range.within))

-- a slot that isn't wrong holds its own quantization, or what fills it
slot_is : (gm_type slot : ℕ) (z p2 p3 : ℤ) → slot_wrong gm_type 0 slot z p2 p3 ≡ false
    → z ≡ choose (carries gm_type slot) (quantized gm_type 0 slot z) (filler gm_type slot p2 p3)
unfolding slot_wrong
slot_is gm_type slot z p2 p3 h = same-equal z _ (not-false _ h)

module _ (slot : ℕ) (z : ℤ) where
  -- a carried slot
  carried : (c : ℕ) → Codable 12 15 c (quantized 3 0 slot z) → z ≡ quantized 3 0 slot z → nat_abs (z -ℤ pos c) ≤ 8192
  carried c g e = codable-reach c z (subst (Codable 12 15 c) (sym e) g)

about-zero : (z : ℤ) → nat_abs (z -ℤ pos 0) ≤ 8192 → nat_abs z ≤ 8192
about-zero z h = rw (+ℤ_idr z) at h

module _ (p2 p3 p4 p5 : ℤ) where
  affine-linear :
      slot_wrong 3 0 2 p2 p2 p3 ≡ false → slot_wrong 3 0 3 p3 p2 p3 ≡ false
      → slot_wrong 3 0 4 p4 p2 p3 ≡ false → slot_wrong 3 0 5 p5 p2 p3 ≡ false → Linear p2 p3 p4 p5
  affine-linear a b c d =
      record {
        slot2 = record { within = carried 2 p2 65536 (row-codable 3 0 2 p2) (slot_is 3 2 p2 p2 p3 a) };
        slot3 = about-zero p3 (carried 3 p3 0 (row-codable 3 0 3 p3) (slot_is 3 3 p3 p2 p3 b));
        slot4 = about-zero p4 (carried 4 p4 0 (row-codable 3 0 4 p4) (slot_is 3 4 p4 p2 p3 c));
        slot5 = record { within = carried 5 p5 65536 (row-codable 3 0 5 p5) (slot_is 3 5 p5 p2 p3 d) };
      }

  -- ROTZOOM's pair is -[3] and [2]
  rotzoom-linear :
      slot_wrong 2 0 2 p2 p2 p3 ≡ false → slot_wrong 2 0 3 p3 p2 p3 ≡ false
      → slot_wrong 2 0 4 p4 p2 p3 ≡ false → slot_wrong 2 0 5 p5 p2 p3 ≡ false → Linear p2 p3 p4 p5
  unfolding filler
  rotzoom-linear a b c d =
      let two : Reach p2 = record { within = carried 2 p2 65536 (row-codable 2 0 2 p2) (slot_is 2 2 p2 p2 p3 a) } in
      let three : nat_abs p3 ≤ 8192 = about-zero p3 (carried 3 p3 0 (row-codable 2 0 3 p3) (slot_is 2 3 p3 p2 p3 b)) in
      record {
        slot2 = two;
        slot3 = three;
        slot4 = rw (slot_is 2 4 p4 p2 p3 c, nat_abs-neg p3) three;
        slot5 = rw (slot_is 2 5 p5 p2 p3 d) two;
      }

module _ (params : List ℤ) where
  abbrev slot_of : ℕ → ℤ
  slot_of i = get_or params i (pos 0)

  abbrev Warped : Type 0
  Warped = Linear (slot_of 2) (slot_of 3) (slot_of 4) (slot_of 5)

  linear : (gm_type : ℕ) → (gm_type ≡ 2) ⊎ (gm_type ≡ 3) → model_wrong gm_type 0 params 0 ≡ false → Warped
  unfolding model_wrong
  linear gm_type t h =
      let right : (k : ℕ) → k < 6 → slot_at gm_type 0 params 0 k ≡ false = each-fails (slot_at gm_type 0 params 0) 6 h in
      ⊎_elim
      (λ (e : gm_type ≡ 2).
      let at : (k : ℕ) → k < 6 → slot_at 2 0 params 0 k ≡ false = subst (λ (g : ℕ). (k : ℕ) → k < 6 → slot_at g 0 params 0 k ≡ false) e right in
      rotzoom-linear (slot_of 2) (slot_of 3) (slot_of 4) (slot_of 5) (at 2 (omega arith)) (at 3 (omega arith)) (at 4 (omega arith)) (at 5 (omega arith)))
      (λ (e : gm_type ≡ 3).
      let at : (k : ℕ) → k < 6 → slot_at 3 0 params 0 k ≡ false = subst (λ (g : ℕ). (k : ℕ) → k < 6 → slot_at g 0 params 0 k ≡ false) e right in
      affine-linear (slot_of 2) (slot_of 3) (slot_of 4) (slot_of 5) (at 2 (omega arith)) (at 3 (omega arith)) (at 4 (omega arith)) (at 5 (omega arith)))
      t

  two-or-three : (gm_type : ℕ) → ltb 3 gm_type ≡ false → ltb gm_type 2 ≡ false → (gm_type ≡ 2) ⊎ (gm_type ≡ 3)
  two-or-three gm_type a b =
      ⊎_elim (λ e. inl e) (λ ne. inr (omega (arith, ltb-false 3 gm_type a, ltb-false gm_type 2 b, ne))) (eq-or-ne gm_type 2)

  pub accepted : (gm_type : ℕ) → shear_refusal gm_type params ≡ 0 → (length params ≡ 6) × Warped
  unfolding shear_refusal
  accepted gm_type h =
      let q = quiet (rows gm_type params) tt h in
      let warped = neither (ltb gm_type 2) (model_wrong gm_type 0 params 0) q.1.1.0 in
      (length-is (length params) 6 q.0, linear gm_type (two-or-three gm_type q.1.0 warped.0) warped.1)
