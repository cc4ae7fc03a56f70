-- Of a codable linear part: the table's place is in the table, no clamp acts, the flag plays no part, and the identity is valid.
-- Assumes nothing.
use Prim.Native.Nat.{ℕ, ◌*◌, ◌^◌, ◌≤◌}
use mathlib.Core.List.{List}
use mathlib.Core.Logic.{⊎_elim}
use mathlib.Core.Path.{◌≡◌, refl, sym, ap, ◌∙◌}
use native.Mathlib.Nat.{le_refl, le_trans, mul-le-mul_left}
use native.Mathlib.Omega.{arith}
use lib.IntN.{ℤ, pos, nat_abs, ◌-ℤ◌, ◌*ℤ◌, +ℤ_comm}
use lib.Pow.{pow_mono}
use Rattle.laws.proofs.Cases.{lt-or-le}
use Rattle.laws.proofs.Signed.{nat_abs-sub-le, sub-shift}
use Rattle.grid.specs.Grid.{negative}
use Rattle.grid.proofs.Signs.{nat_abs-signed}
use Rattle.models.specs.Models.{slot_wrong, model_wrong}
use Rattle.divisor.specs.Rounding.{round2, round2_signed, floor_log2_by, floor_log2}
use Rattle.divisor.specs.Divisor.{div_lut, lut_index, div_shift, div_factor, divided_by}
use Rattle.warp.specs.Shear.{clamped, reduced, warp_valid, alpha0, beta0, gamma0, delta0}
use Rattle.shear.specs.Call.{shear_of}
use Rattle.warp.specs.Inner.{Linear}
use Rattle.divisor.specs.Inner.{Divisor, Exponent, Reach}
use Rattle.warp.proofs.Clamped.{clamp-idle}
use Rattle.divisor.proofs.DivLut.{entry-small}
use Rattle.divisor.proofs.Products.{product-within}
use Rattle.divisor.proofs.Reach.{reach-divisor}
use Rattle.divisor.proofs.Rounding.{log2-between, round2-within, index-small, index_is}

-- slot 2 has 16 or 17 bits
exponent : (d : ℕ) → Divisor d → (Exponent (floor_log2 d) d) × (15 ≤ floor_log2 d)
exponent d h =
    ⊎_elim
    (λ l.
    rw (log2-between 31 15 d (omega arith) (omega (arith, h.low)) l)
    (record { least = omega arith; most = omega arith; low = omega (arith, h.low); high = omega arith }, omega arith))
    (λ l.
    rw (log2-between 31 16 d (omega arith) l (omega (arith, h.high)))
    (record { least = omega arith; most = omega arith; low = omega arith; high = omega (arith, h.high) }, omega arith))
    (lt-or-le d 65536)

-- the place is one of the table's 257
pub index-in-table : (p2 : ℤ) → Reach p2 → lut_index (nat_abs p2) ≤ 256
index-in-table p2 h =
    let d = nat_abs p2 in
    let e = (exponent d (reach-divisor p2 h)).0 in
    rw (sym (index_is (floor_log2 d) d e refl)) (index-small (floor_log2 d) d e)

-- the table's factor and shift divide by at least 2 ^ 15
module _ (p2 : ℤ) (h : Reach p2) where
  factor-small : nat_abs (div_factor p2) ≤ 16384
  unfolding div_factor
  factor-small = rw (nat_abs-signed (negative p2) (div_lut (lut_index (nat_abs p2)))) (entry-small (lut_index (nat_abs p2)))

  shift-large : 2 ^ 29 ≤ 2 ^ div_shift p2
  unfolding div_shift
  shift-large = pow_mono {i = 29} (omega (arith, (exponent (nat_abs p2) (reach-divisor p2 h)).1))

  quotient-within : (x : ℤ) (m : ℕ) → nat_abs x * 16384 ≤ m * 2 ^ 29 → nat_abs (divided_by p2 x) ≤ m
  unfolding divided_by round2_signed
  quotient-within x m l =
      let y = x *ℤ div_factor p2 in
      let product : nat_abs y ≤ nat_abs x * 16384 = product-within x (div_factor p2) (nat_abs x) 16384 (le_refl (nat_abs x)) factor-small in
      rw (nat_abs-signed (negative y) (round2 (nat_abs y) (div_shift p2)))
      (round2-within (nat_abs y) (div_shift p2) m (le_trans product (le_trans l (mul-le-mul_left m shift-large))))

-- one subtracted before the other
swapped : (z x y : ℤ) → (z -ℤ x) -ℤ y ≡ (z -ℤ y) -ℤ x
swapped z x y = sym (sub-shift z y x) ∙ ap (λ (t : ℤ). z -ℤ t) (+ℤ_comm y x) ∙ sub-shift z x y

-- ---- no clamp acts

module _ (p2 p3 p4 p5 : ℤ) (h : Linear p2 p3 p4 p5) where
  pub alpha0-unclamped : alpha0 p2 ≡ p2 -ℤ pos 65536
  unfolding alpha0
  alpha0-unclamped = clamp-idle (p2 -ℤ pos 65536) (omega (arith, h.slot2.within))

  pub beta0-unclamped : beta0 p3 ≡ p3
  beta0-unclamped = clamp-idle p3 (omega (arith, h.slot3))

  pub gamma0-unclamped : gamma0 p2 p4 ≡ divided_by p2 (p4 *ℤ pos 65536)
  unfolding gamma0
  gamma0-unclamped =
      let x = p4 *ℤ pos 65536 in
      let small = product-within p4 (pos 65536) 8192 65536 h.slot4 (omega arith) in
      clamp-idle (divided_by p2 x) (omega (arith, quotient-within p2 h.slot2 x 16384 (omega (arith, small))))

  pub delta0-unclamped : delta0 p2 p3 p4 p5 ≡ (p5 -ℤ divided_by p2 (p3 *ℤ p4)) -ℤ pos 65536
  unfolding delta0
  delta0-unclamped =
      let q = divided_by p2 (p3 *ℤ p4) in
      let small = product-within p3 p4 8192 8192 h.slot3 h.slot4 in
      let quotient = quotient-within p2 h.slot2 (p3 *ℤ p4) 2048 (omega (arith, small)) in
      clamp-idle ((p5 -ℤ q) -ℤ pos 65536)
      (rw (swapped p5 q (pos 65536)) (omega (arith, nat_abs-sub-le (p5 -ℤ pos 65536) q, h.slot5.within, quotient)))

-- ---- the flag, and the identity

pub rotzoom-any-flag : (flag : ℕ) (params : List ℤ) (first : ℕ) → model_wrong 2 flag params first ≡ model_wrong 2 0 params first
unfolding model_wrong slot_wrong
rotzoom-any-flag flag params first = refl

pub affine-any-flag : (flag : ℕ) (params : List ℤ) (first : ℕ) → model_wrong 3 flag params first ≡ model_wrong 3 0 params first
unfolding model_wrong slot_wrong
affine-any-flag flag params first = refl

pub identity-valid : shear_of (pos 65536) (pos 0) (pos 0) (pos 65536) ≡ record { refusal = 0; valid = 1; alpha = pos 0; beta = pos 0; gamma = pos 0; delta = pos 0 }
unfolding alpha0 gamma0 delta0 clamped reduced divided_by div_shift div_factor div_lut floor_log2_by round2 round2_signed warp_valid
identity-valid = refl
