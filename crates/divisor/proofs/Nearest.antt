-- Round2Signed is odd, and gives the nearest quotient: within half a step, and where two are as near, the one farther from 0.
-- Assumes nothing.
use Prim.Native.Nat.{ℕ, ◌+◌, ◌*◌, ◌/◌, ◌^◌, ◌≤◌, ◌<◌}
use mathlib.Core.Bool.{Bool, not}
use mathlib.Core.Path.{◌≡◌, sym, ap, ◌∙◌}
use native.Mathlib.Omega.{arith}
use native.Mathlib.Nat.{div-eq_of_lt}
use lib.IntN.{ℤ, pos, neg_ℤ, nat_abs, ◌-ℤ◌, ◌*ℤ◌}
use lib.Pow.{pow_pos}
use Rattle.laws.proofs.Products.{quotient-low, quotient-high}
use Rattle.grid.specs.Grid.{negative, signed}
use Rattle.grid.proofs.Signs.{apart, signed_parts, nat_abs-signed, signed-times, same-side, negative-signed, keep-sign}
use Rattle.divisor.specs.Rounding.{round2, round2_signed}

-- nothing rounds to nothing
round2-zero : (n : ℕ) → round2 0 n ≡ 0
unfolding round2
round2-zero n = div-eq_of_lt (let l : 0 + 2 ^ n / 2 < 2 ^ n = omega (arith, pow_pos n) in l)

round2_signed-parts : (s : Bool) (m n : ℕ) → round2_signed (signed s m) n ≡ signed s (round2 m n)
unfolding round2_signed
round2_signed-parts s m n = keep-sign (λ (k : ℕ). round2 k n) (round2-zero n) s m

pub round2_signed-odd : (x : ℤ) (n : ℕ) → round2_signed (neg_ℤ x) n ≡ neg_ℤ (round2_signed x n)
round2_signed-odd x n =
    let s = negative x in
    let m = nat_abs x in
    ap (λ (t : ℤ). round2_signed t n) (ap neg_ℤ (sym (signed_parts x)) ∙ negative-signed s m)
    ∙ round2_signed-parts (not s) m n
    ∙ sym (negative-signed s (round2 m n))
    ∙ ap neg_ℤ (sym (round2_signed-parts s m n) ∙ ap (λ (t : ℤ). round2_signed t n) (signed_parts x))

module _ (x : ℤ) (n : ℕ) where
  -- how far x is from the quotient's number
  abbrev distance : ℕ
  distance = nat_abs (x -ℤ round2_signed x n *ℤ pos (2 ^ n))

  over-magnitudes : distance ≡ apart (nat_abs x) (round2 (nat_abs x) n * 2 ^ n)
  unfolding round2_signed
  over-magnitudes =
      let s = negative x in
      let q = round2 (nat_abs x) n in
      ap (λ (t : ℤ). nat_abs (x -ℤ t)) (signed-times s q (2 ^ n))
      ∙ ap (λ (t : ℤ). nat_abs (t -ℤ signed s (q * 2 ^ n))) (sym (signed_parts x))
      ∙ same-side s (nat_abs x) (q * 2 ^ n)

  pub round2_signed-nearest : 2 * distance ≤ 2 ^ n
  unfolding round2
  round2_signed-nearest =
      let m = nat_abs x + 2 ^ n / 2 in
      omega (arith, over-magnitudes, quotient-low m (pow_pos n), quotient-high m (pow_pos n))

  pub tie-away : 2 * distance ≡ 2 ^ n → nat_abs x < nat_abs (round2_signed x n) * 2 ^ n
  unfolding round2 round2_signed
  tie-away e =
      let m = nat_abs x + 2 ^ n / 2 in
      rw (nat_abs-signed (negative x) (m / 2 ^ n))
      (omega (arith, over-magnitudes, quotient-low m (pow_pos n), quotient-high m (pow_pos n), pow_pos n, e))
