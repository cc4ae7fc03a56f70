-- The quantized number is the nearest codable one, for every abs_bits, prec_bits and centre; of two, the one farther from ordinal 0.
-- Assumes nothing.
use Prim.Native.Nat.{ℕ, zero, suc, ◌+◌, ◌*◌, ◌-◌, ◌/◌, ◌^◌, ◌≤◌, ◌<◌, min}
use mathlib.Core.Bool.{Bool, true, false, not}
use mathlib.Core.Logic.{◌⊎◌, ◌≢◌, inl, inr, ⊎_elim}
use mathlib.Core.Path.{◌≡◌, refl, sym, ap}
use native.Mathlib.Nat.{eq-or-lt_of_le, mul-le-mul_right, suc-mul}
use native.Mathlib.Omega.{arith}
use lib.Arith.{lt_of_le-ne}
use lib.Pow.{pow_pos}
use lib.IntN.{ℤ, pos, negsuc, nat_abs, ◌-ℤ◌, ◌*ℤ◌}
use Rattle.laws.proofs.Cases.{lt-or-le}
use Rattle.laws.proofs.Products.{row_fits, quotient-low, quotient-high}
use Rattle.laws.proofs.Signed.{sub-shift}
use Rattle.grid.proofs.Signs.{apart, nat_abs-signed, signed-times, same-side, other-side}
use Rattle.grid.specs.Grid.{step, number, Ordinal, Codable, negative, signed, nearest_ordinal, ordinal_of, quantize}
use Rattle.grid.specs.Nearest.{distance, Nearest}

-- ---- over magnitudes

abbrev Beats : (d o j : ℕ) → ℕ → Type 0
Beats d o j m = (apart m (o * d) < apart m (j * d)) ⊎ ((apart m (o * d) ≡ apart m (j * d)) × (j < o))

module _ (limit d m : ℕ) (some : 0 < d) where
  abbrev q : ℕ
  q = (m + d / 2) / d

  -- o is the quotient, or the limit where the quotient is beyond it
  below : (o j : ℕ) → o ≤ q → j < o → Beats d o j m
  below o j oq jo =
      ⊎_elim (λ e. inr (e, jo)) (λ l. inl l)
      (eq-or-lt_of_le
      (omega (arith, quotient-low (m + d / 2) some, row_fits d jo, mul-le-mul_right d oq)))

  above : (o j : ℕ) → o ≡ q → o < j → Beats d o j m
  above o j oq oj = inl (omega (arith, quotient-low (m + d / 2) some, quotient-high (m + d / 2) some, row_fits d oj, ap (λ (t : ℕ). t * d) oq))

  nearest-magnitude : (j : ℕ) → j ≤ limit → j ≢ min q limit → Beats d (min q limit) j m
  nearest-magnitude j jl ne =
      ⊎_elim
      (λ (l : j < min q limit). below (min q limit) j (omega arith) l)
      (λ (l : min q limit ≤ j). let s : min q limit < j = lt_of_le-ne l (λ e. ne (sym e)) in above (min q limit) j (omega arith) s)
      (lt-or-le j (min q limit))

  -- a number on the other side of the centre is farther
  across : (j : ℕ) → apart m (min q limit * d) < m + suc j * d
  across j =
      omega
      (arith, quotient-low (m + d / 2) some, suc-mul j d, mul-le-mul_right d (let l : min q limit ≤ q = omega arith in l))

-- ---- over signed numbers

-- the distance to an ordinal's number, seen from the centre
distance-number : (prec c : ℕ) (z k : ℤ) → distance z (number prec c k) ≡ nat_abs ((z -ℤ pos c) -ℤ (k *ℤ pos (step prec)))
distance-number prec c z k = ap nat_abs (sub-shift z (k *ℤ pos (step prec)) (pos c))

pub nearest_ordinal-le : (abs prec m : ℕ) → nearest_ordinal abs prec m ≤ 2 ^ abs
unfolding nearest_ordinal
nearest_ordinal-le abs prec m = omega arith

pub ordinal-in-range : (abs prec c : ℕ) (z : ℤ) → Ordinal abs (ordinal_of abs prec c z)
ordinal-in-range abs prec c z = record { within = simp nat_abs-signed (nearest_ordinal-le abs prec _) }

pub quantized-codable : (abs prec c : ℕ) (z : ℤ) → Codable abs prec c (quantize abs prec c z)
unfolding quantize
quantized-codable abs prec c z =
    record { ordinal = ordinal_of abs prec c z; in-range = ordinal-in-range abs prec c z; is = refl }

-- what a farther ordinal is, over the distances from the centre
abbrev Farther : (e : ℤ) (d : ℕ) (k j : ℤ) → Type 0
Farther e d k j =
    (nat_abs (e -ℤ k *ℤ pos d) < nat_abs (e -ℤ j *ℤ pos d))
    ⊎ ((nat_abs (e -ℤ k *ℤ pos d) ≡ nat_abs (e -ℤ j *ℤ pos d)) × (nat_abs j < nat_abs k))

module _ (abs prec m : ℕ) where
  abbrev o : ℕ
  o = min ((m + step prec / 2) / step prec) (2 ^ abs)

  same : (s : Bool) (j : ℕ) → j ≤ 2 ^ abs → j ≢ o → Farther (signed s m) (step prec) (signed s o) (signed s j)
  same s j jl ne =
      rw (signed-times s o (step prec), signed-times s j (step prec), same-side s m (o * step prec), same-side s m (j * step prec), nat_abs-signed s o, nat_abs-signed s j)
      (nearest-magnitude (2 ^ abs) (step prec) m (pow_pos (16 - prec)) j jl ne)

  opposite : (s : Bool) (j : ℕ) → Farther (signed s m) (step prec) (signed s o) (signed (not s) (suc j))
  opposite s j =
      inl
      (rw (signed-times s o (step prec), signed-times (not s) (suc j) (step prec), same-side s m (o * step prec), other-side s m (suc j * step prec))
      (across (2 ^ abs) (step prec) m (pow_pos (16 - prec)) j))

  either_side : (s t : Bool) (j : ℕ) → j ≤ 2 ^ abs → signed t j ≢ signed s o → Farther (signed s m) (step prec) (signed s o) (signed t j)
  either_side true true j jl ne = same true j jl (λ e. ne (ap (signed true) e))
  either_side true false zero jl ne = same true zero jl (λ e. ne (ap (signed true) e))
  either_side true false (suc j) jl ne = opposite true j
  either_side false true zero jl ne = same false zero jl (λ e. ne (ap (signed false) e))
  either_side false true (suc j) jl ne = opposite false j
  either_side false false j jl ne = same false j jl (λ e. ne (ap (signed false) e))

from-centre : (abs prec : ℕ) (e j : ℤ) → nat_abs j ≤ 2 ^ abs → j ≢ signed (negative e) (o abs prec (nat_abs e)) → Farther e (step prec) (signed (negative e) (o abs prec (nat_abs e))) j
from-centre abs prec (pos m) (pos n) = either_side abs prec m false false n
from-centre abs prec (pos m) (negsuc n) = either_side abs prec m false true (suc n)
from-centre abs prec (negsuc m) (pos n) = either_side abs prec (suc m) true false n
from-centre abs prec (negsuc m) (negsuc n) = either_side abs prec (suc m) true true (suc n)

-- the law of the nearest
pub ordinal-nearest : (abs prec c : ℕ) (z : ℤ) → Nearest abs prec c z (ordinal_of abs prec c z)
unfolding nearest_ordinal
ordinal-nearest abs prec c z =
    record {
      in-range = ordinal-in-range abs prec c z;
      others =
          λ j r ne.
          rw (distance-number prec c z (ordinal_of abs prec c z), distance-number prec c z j)
          (from-centre abs prec (z -ℤ pos c) j r.within ne);
    }
