-- What a mask takes out of a number.
-- Assumes nothing.
use Prim.Native.Nat.{ℕ, ◌+◌, ◌-◌, ◌*◌, ◌/◌, ◌%◌, ◌^◌}
use mathlib.Core.Path.{◌≡◌, ap, sym, ◌∙◌}
use native.Mathlib.Omega.{arith}
use lib.Bits.{bit_and, and_high}
use lib.Pow.{split, mod-pow-add, high_ones}

-- y without the n bits above its low s bits
pub kept-outside : (y s n : ℕ) → y - bit_and y ((2 ^ n - 1) * 2 ^ s) ≡ y / 2 ^ (s + n) * 2 ^ (s + n) + y % 2 ^ s
kept-outside y s n =
    let c : s + n ≡ n + s = omega arith in
    let under : bit_and y ((2 ^ n - 1) * 2 ^ s) ≡ (y / 2 ^ s % 2 ^ n) * 2 ^ s = ap (λ (m : ℕ). bit_and y m) (sym (high_ones n s)) ∙ and_high y n s in
    let parts : y % 2 ^ (s + n) ≡ (y / 2 ^ s % 2 ^ n) * 2 ^ s + y % 2 ^ s = ap (λ (m : ℕ). y % 2 ^ m) c ∙ mod-pow-add y n s in
    omega (arith, under, parts, split y (s + n))
