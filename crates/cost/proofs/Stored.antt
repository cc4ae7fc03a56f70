-- A motion in eighths as whole pels and a fraction, by their biased natural numbers.
-- Assumes nothing.
use Prim.Native.Nat.{ℕ, ◌+◌, ◌/◌, ◌%◌}
use mathlib.Core.Path.{◌≡◌, sym}
use native.Mathlib.Omega.{arith}
use Rattle.plane.specs.Clamp.{offset}
use Rattle.plane.proofs.Offsets.{offset-cases, offset-pos, offset-neg}
use Rattle.cost.specs.Cost.{whole, fraction}

-- a motion in eighths plus 223, as whole pels plus 28 and eighths left
pub whole-of-stored : (n : ℕ) → whole (offset 223 n) ≡ offset 28 ((n + 1) / 8)
unfolding whole
whole-of-stored n =
    offset-cases 223 n (λ z. whole z ≡ offset 28 ((n + 1) / 8))
    (λ k e. sym (offset-neg 28 ((n + 1) / 8) (k / 8) (omega arith)))
    (λ k e. sym (offset-pos 28 ((n + 1) / 8) (k / 8) (omega arith)))

pub fraction-of-stored : (n : ℕ) → fraction (offset 223 n) ≡ (n + 1) % 8
unfolding fraction
fraction-of-stored n =
    offset-cases 223 n (λ z. fraction z ≡ (n + 1) % 8)
    (λ k e. omega arith)
    (λ k e. omega arith)
