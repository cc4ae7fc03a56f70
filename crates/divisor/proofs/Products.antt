-- The magnitude of a product is the product of the magnitudes, and so products stay within 64 bits.
-- Assumes nothing.
use Prim.Native.Nat.{ℕ, suc, ◌*◌, ◌^◌, ◌≤◌, ◌<◌}
use mathlib.Core.Path.{◌≡◌, refl}
use native.Mathlib.Nat.{mul-le-mul}
use native.Mathlib.Omega.{arith}
use lib.IntN.{ℤ, pos, negsuc, nat_abs, ◌*ℤ◌}
use mir.Syntax.{w64}
use mir.Val.{SFits}
use Rattle.laws.proofs.Signed.{nat_abs-neg, sfits-nat_abs}

pub nat_abs-product : (x y : ℤ) → nat_abs (x *ℤ y) ≡ nat_abs x * nat_abs y
nat_abs-product (pos m) (pos n) = refl
nat_abs-product (pos m) (negsuc n) = nat_abs-neg (pos (m * suc n))
nat_abs-product (negsuc m) (pos n) = nat_abs-neg (pos (suc m * n))
nat_abs-product (negsuc m) (negsuc n) = refl

pub product-fits : (x y : ℤ) → nat_abs x * nat_abs y < 2 ^ 61 → SFits w64 (x *ℤ y)
product-fits x y h = sfits-nat_abs w64 (x *ℤ y) (rw (nat_abs-product x y) (omega arith))

-- two bounded factors
pub product-within : (x y : ℤ) (a b : ℕ) → nat_abs x ≤ a → nat_abs y ≤ b → nat_abs (x *ℤ y) ≤ a * b
product-within x y a b h k = rw (nat_abs-product x y) (mul-le-mul h k)

-- a number to be divided, and a factor of the table
pub factor-below : (a b : ℕ) → a < 2 ^ 32 → b ≤ 16384 → a * b < 2 ^ 61
factor-below a b h k = omega (arith, mul-le-mul {n₁ = a} {m₁ = b} {n₂ = 2 ^ 32} {m₂ = 16384} (omega arith) k)
