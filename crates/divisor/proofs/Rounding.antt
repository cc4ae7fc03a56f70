-- Round2, FloorLog2 and the place in the table: how large they get, for every exponent above 8.
-- Assumes nothing.
use Prim.Native.Nat.{ℕ, zero, suc, ◌+◌, ◌*◌, ◌-◌, ◌/◌, ◌^◌, ◌≤◌, ◌<◌}
use mathlib.Core.Path.{◌≡◌, refl, ap, ◌∙◌}
use native.Mathlib.Nat.{div-lt_iff_lt-mul}
use native.Mathlib.Omega.{arith}
use borrow.Author.Tests.{lt-ltb, le-ltb}
use lib.IntN.{ℤ, nat_abs}
use lib.Pow.{pow_pos, pow-add}
use Rattle.grid.specs.Grid.{negative}
use Rattle.grid.proofs.Signs.{nat_abs-signed}
use Rattle.divisor.specs.Rounding.{round2, round2_signed, floor_log2_by, floor_log2}
use Rattle.divisor.specs.Divisor.{lut_index}
use Rattle.divisor.specs.Inner.{Exponent}

-- a number between two powers is halved as often as the lower says
pub log2-between : (halvings n x : ℕ) → n ≤ halvings → 2 ^ n ≤ x → x < 2 * 2 ^ n → floor_log2_by halvings x ≡ n
unfolding floor_log2_by
log2-between zero zero x l a b = refl
log2-between zero (suc n) x l a b = absurd (omega arith)
log2-between (suc halvings) zero x l a b = rw (lt-ltb x 2 b)
log2-between (suc halvings) (suc n) x l a b =
    rw (le-ltb x 2 (omega (arith, pow_pos n)))
    (ap suc (log2-between halvings n (x / 2) (omega arith) (omega arith) (omega arith)))

-- what is below m times the divisor rounds to at most m
pub round2-within : (x n m : ℕ) → x ≤ m * 2 ^ n → round2 x n ≤ m
unfolding round2
round2-within x n m h =
    let l : (x + 2 ^ n / 2) / 2 ^ n < suc m = (div-lt_iff_lt-mul (pow_pos n)).1 (omega (arith, pow_pos n)) in
    omega arith

module _ (n d : ℕ) (h : Exponent n d) where
  beyond : d - 2 ^ n ≤ 256 * 2 ^ (n - 8)
  beyond =
      let e : n ≡ 8 + (n - 8) = omega (arith, h.least) in
      let p : 2 ^ n ≡ 256 * 2 ^ (n - 8) = ap (λ (m : ℕ). 2 ^ m) e ∙ pow-add 2 8 (n - 8) in
      omega (arith, h.high)

  -- the place is in the table
  pub index-small : round2 (d - 2 ^ n) (n - 8) ≤ 256
  index-small = round2-within (d - 2 ^ n) (n - 8) 256 beyond

  pub index_is : n ≡ floor_log2 d → round2 (d - 2 ^ n) (n - 8) ≡ lut_index d
  index_is e = rw (← e, lt-ltb 8 n h.least)

-- a number of 16 bits rounds to at most 512 steps of 64
pub reduced-small : (x : ℤ) → nat_abs x ≤ 32768 → nat_abs (round2_signed x 6) ≤ 512
unfolding round2_signed
reduced-small x h = rw (nat_abs-signed (negative x) (round2 (nat_abs x) 6)) (round2-within (nat_abs x) 6 512 h)
