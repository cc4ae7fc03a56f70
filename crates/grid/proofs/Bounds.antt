-- How large the powers and products of a row of the table get, for the code's widths.
-- Assumes nothing.
use Prim.Native.Nat.{ℕ, zero, suc, ◌*◌, ◌-◌, ◌^◌, ◌≤◌, ◌<◌}
use mathlib.Core.Path.{◌≡◌, refl}
use native.Mathlib.Nat.{le_trans, mul-le-mul_right}
use native.Mathlib.Omega.{arith}
use lib.IntN.{ℤ, pos, negsuc, neg_ℤ, nat_abs, ◌+ℤ◌, ◌-ℤ◌, ◌*ℤ◌}
use lib.Pow.{pow-add, pow_mono}
use Rattle.laws.proofs.Signed.{nat_abs-subℕ, nat_abs-neg}
use Rattle.grid.specs.Grid.{step, nearest_ordinal, Row}
use Rattle.grid.specs.Symbols.{symbols}
use Rattle.grid.proofs.Nearest.{nearest_ordinal-le}
use Rattle.grid.proofs.Signs.{apart_of}

nat_abs-times : (x : ℤ) (d : ℕ) → nat_abs (x *ℤ pos d) ≡ nat_abs x * d
nat_abs-times (pos n) d = refl
nat_abs-times (negsuc n) d = nat_abs-neg (pos (suc n * d))

-- a magnitude taken from at least as much
pub taken-from : (n m : ℕ) → n ≤ m → m - n ≡ nat_abs (neg_ℤ (pos n) +ℤ pos m)
taken-from zero m h = omega arith
taken-from (suc n) m h = omega (arith, nat_abs-subℕ m (suc n))

module _ (abs prec : ℕ) (h : Row abs prec) where
  pub middle-small : 2 ^ abs ≤ 4194304
  middle-small = pow_mono {j = 22} (omega (arith, h.reach))

  pub step_small : step prec ≤ 65536
  step_small = pow_mono {j = 16} (omega arith)

  pub reach-small : 2 ^ abs * step prec ≤ 4194304
  reach-small = rw (← pow-add 2 abs (16 - prec)) (pow_mono {j = 22} h.reach)

  pub distance-small : (m : ℕ) → nearest_ordinal abs prec m * step prec ≤ 4194304
  distance-small m = le_trans (mul-le-mul_right (step prec) (nearest_ordinal-le abs prec m)) reach-small

  pub symbol-distance-small : (t : ℕ) → t < symbols abs → nat_abs ((pos t -ℤ pos (2 ^ abs)) *ℤ pos (step prec)) ≤ 4194304
  symbol-distance-small t l =
      rw (nat_abs-times (pos t -ℤ pos (2 ^ abs)) (step prec))
      (le_trans (mul-le-mul_right (step prec) (let e : nat_abs (pos t -ℤ pos (2 ^ abs)) ≤ 2 ^ abs = omega (arith, apart_of t (2 ^ abs)) in e)) reach-small)
