-- Symbols and numbers are inverse to each other, and a prior in range has its place among the symbols.
-- Assumes nothing.
use Prim.Native.Nat.{ℕ, suc, ◌+◌, ◌*◌, ◌-◌, ◌/◌, ◌^◌, ◌≤◌, ◌<◌}
use mathlib.Core.Bool.{Bool, true, false}
use mathlib.Core.Path.{◌≡◌, refl, sym, ap, ◌∙◌}
use native.Mathlib.Nat.{zero-mul, one-mul, add-mul, mul_assoc, div-lt_iff_lt-mul}
use native.Mathlib.Omega.{arith}
use borrow.Author.Tests.{ltb-false}
use lib.Dec.{ltb, eqb}
use lib.IntN.{ℤ, pos, negsuc, nat_abs, ◌+ℤ◌, ◌-ℤ◌, -ℤ-+ℤ_cancel, +ℤ-neg_ℤ_cancel}
use lib.Pow.{pow_pos, pow-add}
use lib.Signed.{shr_z}
use Rattle.laws.specs.Refusal.{choose, either}
use Rattle.laws.proofs.Floor.{floor-steps}
use Rattle.laws.proofs.Signed.{subℕ-pos, nat_abs-add-le}
use Rattle.grid.specs.Grid.{step, number, Ordinal, Codable, ordinal_of, quantize, abs_bits, prec_bits, centre}
use Rattle.grid.specs.Symbols.{symbols, number_of, symbol_of, less_of, place_number, place_of, prior_reach, prior_out}
use Rattle.grid.proofs.Nearest.{ordinal-in-range}
use Rattle.grid.proofs.Signs.{apart_of}
use Rattle.grid.proofs.Table.{table-row}
use Rattle.grid.proofs.Fixed.{ordinal-of-number, own-quantization}

-- a number at most A below 0, and A, make a natural number
pub lifted : (k : ℤ) (a : ℕ) → nat_abs k ≤ a → k +ℤ pos a ≡ pos (nat_abs (k +ℤ pos a))
lifted (pos n) a h = refl
lifted (negsuc n) a h = rw (subℕ-pos a (suc n) h)

-- ---- symbols

module _ (abs prec c : ℕ) where
  pub symbol-below : (z : ℤ) → symbol_of abs prec c z < symbols abs
  unfolding symbol_of
  symbol-below z = omega (arith, nat_abs-add-le (ordinal_of abs prec c z) (pos (2 ^ abs)), (ordinal-in-range abs prec c z).within)

  pub symbol-quantizes : (z : ℤ) → number_of abs prec c (symbol_of abs prec c z) ≡ quantize abs prec c z
  unfolding symbol_of quantize
  symbol-quantizes z =
      let k = ordinal_of abs prec c z in
      ap (number prec c)
      (ap (λ (t : ℤ). t -ℤ pos (2 ^ abs)) (sym (lifted k (2 ^ abs) (ordinal-in-range abs prec c z).within)) ∙ +ℤ-neg_ℤ_cancel k (pos (2 ^ abs)))

  pub symbol-stands : (z : ℤ) → Codable abs prec c z → number_of abs prec c (symbol_of abs prec c z) ≡ z
  symbol-stands z g = symbol-quantizes z ∙ own-quantization abs prec c z g

  symbol-ordinal : (t : ℕ) → t < symbols abs → Ordinal abs (pos t -ℤ pos (2 ^ abs))
  symbol-ordinal t h = record { within = omega (arith, apart_of t (2 ^ abs)) }

  pub number-codable : (t : ℕ) → t < symbols abs → Codable abs prec c (number_of abs prec c t)
  number-codable t h = record { ordinal = pos t -ℤ pos (2 ^ abs); in-range = symbol-ordinal t h; is = refl }

  pub number-symbol : (t : ℕ) → t < symbols abs → symbol_of abs prec c (number_of abs prec c t) ≡ t
  unfolding symbol_of
  number-symbol t h =
      rw (ordinal-of-number abs prec c (pos t -ℤ pos (2 ^ abs)) (symbol-ordinal t h), -ℤ-+ℤ_cancel (pos t) (pos (2 ^ abs)))

-- ---- places

-- the place as the code computes it: from the least codable number up
pub place-steps : (abs prec slot : ℕ) (z : ℤ) → less_of prec slot * step prec ≡ centre slot → nat_abs (z -ℤ pos (centre slot)) ≤ 2 ^ abs * step prec
    → place_number abs prec slot z ≡ pos (nat_abs ((z -ℤ pos (centre slot)) +ℤ pos (2 ^ abs * step prec)) / step prec)
place-steps abs prec slot z e h =
    let d = step prec in
    let a = 2 ^ abs in
    let l = less_of prec slot in
    let y = z -ℤ pos (centre slot) in
    let whole : shr_z z d ≡ shr_z y d +ℤ pos l =
    ap (λ (t : ℤ). shr_z t d) (sym (-ℤ-+ℤ_cancel z (pos (centre slot))) ∙ ap (λ (n : ℕ). y +ℤ pos n) (sym e))
    ∙ floor-steps d (pow_pos (16 - prec)) y l in
    ap (λ (t : ℤ). t -ℤ pos l +ℤ pos a) whole
    ∙ ap (λ (t : ℤ). t +ℤ pos a) (+ℤ-neg_ℤ_cancel (shr_z y d) (pos l))
    ∙ sym (floor-steps d (pow_pos (16 - prec)) y a)
    ∙ ap (λ (t : ℤ). shr_z t d) (lifted y (a * d) h)

pub place-code : (abs prec slot : ℕ) (z : ℤ) → less_of prec slot * step prec ≡ centre slot → nat_abs (z -ℤ pos (centre slot)) ≤ 2 ^ abs * step prec
    → place_of abs prec slot z ≡ nat_abs ((z -ℤ pos (centre slot)) +ℤ pos (2 ^ abs * step prec)) / step prec
unfolding place_of
place-code abs prec slot z e h = ap nat_abs (place-steps abs prec slot z e h)

pub place-natural : (abs prec slot : ℕ) (z : ℤ) → less_of prec slot * step prec ≡ centre slot → nat_abs (z -ℤ pos (centre slot)) ≤ 2 ^ abs * step prec
    → place_number abs prec slot z ≡ pos (place_of abs prec slot z)
place-natural abs prec slot z e h = place-steps abs prec slot z e h ∙ ap pos (sym (place-code abs prec slot z e h))

pub place-below : (abs prec slot : ℕ) (z : ℤ) → less_of prec slot * step prec ≡ centre slot → nat_abs (z -ℤ pos (centre slot)) ≤ 2 ^ abs * step prec
    → place_of abs prec slot z < symbols abs
place-below abs prec slot z e h =
    let y = z -ℤ pos (centre slot) in
    let n = 2 ^ abs * step prec in
    rw (place-code abs prec slot z e h)
    ((div-lt_iff_lt-mul (pow_pos (16 - prec))).1
    (omega (arith, nat_abs-add-le y (pos n), add-mul (2 * 2 ^ abs) 1 (step prec), one-mul (step prec), mul_assoc 2 (2 ^ abs) (step prec), pow_pos (16 - prec))))

less-times : (b : Bool) (prec : ℕ) → prec ≤ 16 → choose b (2 ^ prec) 0 * step prec ≡ choose b 65536 0
less-times true prec h = sym (pow-add 2 prec (16 - prec)) ∙ ap (λ (n : ℕ). 2 ^ n) (let e : prec + (16 - prec) ≡ 16 = omega arith in e)
less-times false prec h = zero-mul (step prec)

-- what a prior is less is the centre, in steps
pub less-steps : (prec slot : ℕ) → prec ≤ 16 → less_of prec slot * step prec ≡ centre slot
less-steps prec slot h = less-times (either (eqb slot 2) (eqb slot 5)) prec h

-- ---- at the rows of the table

row-less : (gm_type flag slot : ℕ) → less_of (prec_bits gm_type flag slot) slot * step (prec_bits gm_type flag slot) ≡ centre slot
row-less gm_type flag slot = less-steps (prec_bits gm_type flag slot) slot (table-row gm_type flag slot).fraction

reaches : (s t h : Bool) → choose s 4194304 8192 ≡ 2 ^ choose (choose s t false) (choose h 9 8) 12 * step (choose (choose s t false) (choose h 3 2) (choose s 6 15))
reaches true true true = refl
reaches true true false = refl
reaches true false h = refl
reaches false t h = refl

-- a prior reaches as far as the codable numbers
pub row-reach : (gm_type flag slot : ℕ) → prior_reach slot ≡ 2 ^ abs_bits gm_type flag slot * step (prec_bits gm_type flag slot)
row-reach gm_type flag slot = reaches (ltb slot 2) (eqb gm_type 1) (eqb flag 1)

module _ (gm_type flag slot : ℕ) (z : ℤ) (h : prior_out slot z ≡ false) where
  in_reach : nat_abs (z -ℤ pos (centre slot)) ≤ 2 ^ abs_bits gm_type flag slot * step (prec_bits gm_type flag slot)
  in_reach = rw (← row-reach gm_type flag slot) (ltb-false (prior_reach slot) (nat_abs (z -ℤ pos (centre slot))) h)

  pub row-place-below : place_of (abs_bits gm_type flag slot) (prec_bits gm_type flag slot) slot z < symbols (abs_bits gm_type flag slot)
  row-place-below = place-below (abs_bits gm_type flag slot) (prec_bits gm_type flag slot) slot z (row-less gm_type flag slot) in_reach

  -- the place is the whole number of docs/RULES.md, none of it lost
  pub row-place : place_number (abs_bits gm_type flag slot) (prec_bits gm_type flag slot) slot z ≡ pos (place_of (abs_bits gm_type flag slot) (prec_bits gm_type flag slot) slot z)
  row-place = place-natural (abs_bits gm_type flag slot) (prec_bits gm_type flag slot) slot z (row-less gm_type flag slot) in_reach

  pub row-place-code : place_of (abs_bits gm_type flag slot) (prec_bits gm_type flag slot) slot z
      ≡ nat_abs ((z -ℤ pos (centre slot)) +ℤ pos (2 ^ abs_bits gm_type flag slot * step (prec_bits gm_type flag slot))) / step (prec_bits gm_type flag slot)
  row-place-code = place-code (abs_bits gm_type flag slot) (prec_bits gm_type flag slot) slot z (row-less gm_type flag slot) in_reach
