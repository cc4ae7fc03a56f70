-- The clamp to 16 bits by its two tests, how small what it leaves is, and where it doesn't act.
-- Assumes nothing.
use Prim.Native.Nat.{◌≤◌}
use mathlib.Core.Bool.{true, false}
use mathlib.Core.Logic.{⊎_elim}
use mathlib.Core.Path.{◌≡◌, refl}
use native.Mathlib.Omega.{arith}
use borrow.Author.Tests.{le-ltb, ltb-false}
use lib.IntN.{ℤ, pos, negsuc, nat_abs}
use lib.Signed.{lt_z}
use Rattle.laws.proofs.Cases.{outcome}
use Rattle.warp.specs.Shear.{clamped}

module _ (x : ℤ) where
  pub clamped_low : lt_z x (negsuc 32767) ≡ true → clamped x ≡ negsuc 32767
  unfolding clamped
  clamped_low e = rw e

  pub clamped_high : lt_z x (negsuc 32767) ≡ false → lt_z (pos 32767) x ≡ true → clamped x ≡ pos 32767
  unfolding clamped
  clamped_high e h = rw (e, h)

  pub clamped-same : lt_z x (negsuc 32767) ≡ false → lt_z (pos 32767) x ≡ false → clamped x ≡ x
  unfolding clamped
  clamped-same e h = rw (e, h)

pub within-small : (x : ℤ) → lt_z x (negsuc 32767) ≡ false → lt_z (pos 32767) x ≡ false → nat_abs x ≤ 32768
within-small (pos a) e h = omega (arith, ltb-false 32767 a h)
within-small (negsuc a) e h = omega (arith, ltb-false 32767 a e)

-- a number of 15 bits and a sign stays
pub clamp-idle : (x : ℤ) → nat_abs x ≤ 32767 → clamped x ≡ x
clamp-idle (pos a) h = clamped-same (pos a) refl (le-ltb 32767 a h)
clamp-idle (negsuc a) h = clamped-same (negsuc a) (le-ltb 32767 a (omega arith)) refl

pub clamped-small : (x : ℤ) → nat_abs (clamped x) ≤ 32768
clamped-small x =
    ⊎_elim
    (λ (low : lt_z x (negsuc 32767) ≡ true). rw (clamped_low x low) (omega arith))
    (λ (low : lt_z x (negsuc 32767) ≡ false).
    ⊎_elim
    (λ (high : lt_z (pos 32767) x ≡ true). rw (clamped_high x low high) (omega arith))
    (λ (high : lt_z (pos 32767) x ≡ false). rw (clamped-same x low high) (within-small x low high))
    (outcome (lt_z (pos 32767) x)))
    (outcome (lt_z x (negsuc 32767)))
