-- A shift is its biased number less the bias: below it for a negative shift, and otherwise at it or above.
-- Assumes nothing.
use Prim.Native.Nat.{ℕ, suc, ◌+◌, ◌-◌, ◌≤◌}
use mathlib.Core.Bool.{true, false}
use mathlib.Core.Path.{◌≡◌, refl}
use native.Mathlib.Omega.{arith}
use lib.IntN.{ℤ, pos, negsuc, nat_abs}
use lib.Signed.{lt_z}
use borrow.Author.Tests.{ltb-true}
use Rattle.plane.proofs.Offsets.{offset-pos, offset-neg}
use Rattle.practice_planes.specs.Shift.{largest_shift}
use Rattle.practice.specs.Inner.{Biased}

pub below : (z : ℤ) → lt_z z (pos 0) ≡ true → nat_abs z ≤ largest_shift → Biased z (largest_shift - nat_abs z)
below (pos n) e h = absurd (let l = ltb-true n 0 e in omega (arith, l))
below (negsuc n) e h = record { same = offset-neg largest_shift (largest_shift - suc n) n (omega arith); small = omega arith }

pub above : (z : ℤ) → lt_z z (pos 0) ≡ false → nat_abs z ≤ largest_shift → Biased z (largest_shift + nat_abs z)
above (pos n) e h = record { same = offset-pos largest_shift (largest_shift + n) n refl; small = omega arith }
above (negsuc n) e h = absurd (let z : ◌≡◌ {A = ℕ} 0 1 = cc in omega arith)
