-- The signed eighths of a stored motion, by their sign, and that they fit an i32.
-- Assumes nothing.
use Prim.Native.Nat.{ℕ, ◌-◌, ◌<◌, ◌≤◌}
use mathlib.Core.Path.{◌≡◌, refl, sym, ap, subst}
use mathlib.Core.Bool.{Bool, true, false}
use native.Mathlib.Omega.{arith}
use borrow.Author.Tests.{lt-ltb, le-ltb, ltb-true, ltb-false}
use lib.Dec.{ltb}
use lib.IntN.{ℤ, pos, negsuc}
use mir.Syntax.{w32}
use mir.Val.{SFits}
use Rattle.sample.specs.Sample.{eighths_of}

pub eighths-below-zero : (stored : ℕ) → stored < 223 → eighths_of stored ≡ negsuc (222 - stored)
eighths-below-zero stored h = rw (lt-ltb stored 223 h) (ap negsuc (omega arith))

pub eighths-from-zero : (stored : ℕ) → 223 ≤ stored → eighths_of stored ≡ pos (stored - 223)
eighths-from-zero stored h = rw (le-ltb stored 223 h)

pub eighths-fit : (stored : ℕ) → stored < 512 → SFits w32 (eighths_of stored)
eighths-fit stored h = by_sign (ltb stored 223) refl
  where
    by_sign : (b : Bool) → ltb stored 223 ≡ b → SFits w32 (eighths_of stored)
    by_sign true e =
        subst (λ (z : ℤ). SFits w32 z) (sym (eighths-below-zero stored (ltb-true stored 223 e)))
        (record { sfits = omega arith })
    by_sign false e =
        subst (λ (z : ℤ). SFits w32 z) (sym (eighths-from-zero stored (ltb-false stored 223 e)))
        (record { sfits = omega arith })
