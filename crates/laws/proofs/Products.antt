-- Products and quotients of two variables, which omega takes as unknowns, by the facts that it can add up.
-- Assumes nothing.
use Prim.Native.Nat.{ℕ, ◌+◌, ◌*◌, ◌/◌, ◌≤◌, ◌<◌}
use native.Mathlib.Nat.{mul-le-mul_right, suc-mul, div-add-mod', mod-lt}
use native.Mathlib.Omega.{arith}

-- a whole row below another
pub row_fits : {i n : ℕ} (w : ℕ) → i < n → i * w + w ≤ n * w
row_fits {i} {n} w h = rw (← suc-mul i w) (mul-le-mul_right w h)

-- a quotient is the whole number of times that the divisor goes into the dividend
pub quotient-low : (x : ℕ) {d : ℕ} → 0 < d → x / d * d ≤ x
quotient-low x {d} h = omega (arith, div-add-mod' x d)

pub quotient-high : (x : ℕ) {d : ℕ} → 0 < d → x < x / d * d + d
quotient-high x {d} h = omega (arith, div-add-mod' x d, mod-lt x h)
