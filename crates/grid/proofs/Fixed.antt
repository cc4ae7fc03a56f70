-- A codable number is its own quantization, and about a centre of 0 quantization is symmetric.
-- Assumes nothing.
use Prim.Native.Nat.{ℕ, ◌+◌, ◌*◌, ◌-◌, ◌/◌, ◌^◌, ◌≤◌}
use mathlib.Core.Bool.{Bool, not}
use mathlib.Core.Path.{◌≡◌, sym, ap, ◌∙◌}
use native.Mathlib.Nat.{zero-mul}
use native.Mathlib.Omega.{arith}
use lib.Arith.{digits_div}
use lib.Pow.{pow_pos}
use lib.IntN.{ℤ, pos, neg_ℤ, nat_abs, ◌*ℤ◌, +ℤ-neg_ℤ_cancel, +ℤ_idr}
use Rattle.grid.specs.Grid.{step, number, Ordinal, Codable, negative, signed, nearest_ordinal, ordinal_of, quantize}
use Rattle.grid.proofs.Signs.{signed_parts, signed-times, negative-signed, keep-sign}

own-ordinal : (abs prec k : ℕ) → k ≤ 2 ^ abs → nearest_ordinal abs prec (k * step prec) ≡ k
unfolding nearest_ordinal
own-ordinal abs prec k h =
    let e : (k * step prec + step prec / 2) / step prec ≡ k = digits_div k (omega (arith, pow_pos (16 - prec))) in
    omega arith

zero-ordinal : (abs prec : ℕ) → nearest_ordinal abs prec 0 ≡ 0
zero-ordinal abs prec = ap (nearest_ordinal abs prec) (sym (zero-mul (step prec))) ∙ own-ordinal abs prec 0 (omega arith)

-- ---- codable numbers stay

from-ordinal : (abs prec c : ℕ) (s : Bool) (k : ℕ) → k ≤ 2 ^ abs → ordinal_of abs prec c (number prec c (signed s k)) ≡ signed s k
from-ordinal abs prec c s k h =
    rw (+ℤ-neg_ℤ_cancel (signed s k *ℤ pos (step prec)) (pos c), signed-times s k (step prec), keep-sign (nearest_ordinal abs prec) (zero-ordinal abs prec) s (k * step prec))
    (ap (signed s) (own-ordinal abs prec k h))

pub ordinal-of-number : (abs prec c : ℕ) (k : ℤ) → Ordinal abs k → ordinal_of abs prec c (number prec c k) ≡ k
ordinal-of-number abs prec c k h =
    rw (← signed_parts k) (from-ordinal abs prec c (negative k) (nat_abs k) h.within)

pub own-quantization : (abs prec c : ℕ) (z : ℤ) → Codable abs prec c z → quantize abs prec c z ≡ z
unfolding quantize
own-quantization abs prec c z g =
    rw g.is (ap (number prec c) (ordinal-of-number abs prec c g.ordinal g.in-range))

-- ---- the other side of a centre of 0

quantize-signed : (abs prec : ℕ) (s : Bool) (n : ℕ) → quantize abs prec 0 (signed s n) ≡ signed s (nearest_ordinal abs prec n * step prec)
unfolding quantize
quantize-signed abs prec s n =
    rw (+ℤ_idr (signed s n), keep-sign (nearest_ordinal abs prec) (zero-ordinal abs prec) s n)
    (+ℤ_idr (signed s (nearest_ordinal abs prec n) *ℤ pos (step prec)) ∙ signed-times s (nearest_ordinal abs prec n) (step prec))

pub quantize-negative : (abs prec : ℕ) (z : ℤ) → quantize abs prec 0 (neg_ℤ z) ≡ neg_ℤ (quantize abs prec 0 z)
quantize-negative abs prec z =
    let s = negative z in
    let n = nat_abs z in
    ap (quantize abs prec 0) (ap neg_ℤ (sym (signed_parts z)) ∙ negative-signed s n)
    ∙ quantize-signed abs prec (not s) n
    ∙ sym (negative-signed s (nearest_ordinal abs prec n * step prec))
    ∙ ap neg_ℤ (sym (quantize-signed abs prec s n) ∙ ap (quantize abs prec 0) (signed_parts z))
