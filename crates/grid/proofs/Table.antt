-- The rows of the table: each is one that the general laws are cited at, whatever the type, flag and slot.
-- Assumes nothing.
use Prim.Native.Nat.{ℕ, ◌≤◌}
use mathlib.Core.Bool.{Bool, true, false}
use native.Mathlib.Omega.{arith}
use lib.Dec.{ltb, eqb}
use lib.IntN.{ℤ, neg_ℤ}
use mathlib.Core.Path.{◌≡◌}
use Rattle.laws.specs.Refusal.{choose, either}
use Rattle.grid.specs.Grid.{translational, abs_bits, prec_bits, centre, Row, Codable, ordinal_of, quantized}
use Rattle.grid.specs.Nearest.{Nearest}
use Rattle.grid.proofs.Nearest.{quantized-codable, ordinal-nearest}
use Rattle.grid.proofs.Fixed.{own-quantization, quantize-negative}

rows : (t h s : Bool) → Row (choose t (choose h 9 8) 12) (choose t (choose h 3 2) (choose s 6 15))
rows true true s = record { fraction = omega arith; reach = omega arith }
rows true false s = record { fraction = omega arith; reach = omega arith }
rows false h true = record { fraction = omega arith; reach = omega arith }
rows false h false = record { fraction = omega arith; reach = omega arith }

pub table-row : (gm_type flag slot : ℕ) → Row (abs_bits gm_type flag slot) (prec_bits gm_type flag slot)
table-row gm_type flag slot = rows (translational gm_type slot) (eqb flag 1) (ltb slot 2)

widths : (t h : Bool) → (3 ≤ choose t (choose h 9 8) 12) × (choose t (choose h 9 8) 12 ≤ 12)
widths true true = (omega arith, omega arith)
widths true false = (omega arith, omega arith)
widths false h = (omega arith, omega arith)

-- what the general laws ask, and what the code holds
pub abs_bits-range : (gm_type flag slot : ℕ) → (3 ≤ abs_bits gm_type flag slot) × (abs_bits gm_type flag slot ≤ 12)
abs_bits-range gm_type flag slot = widths (translational gm_type slot) (eqb flag 1)

centred : (b : Bool) → choose b 65536 0 ≤ 65536
centred true = omega arith
centred false = omega arith

pub centre-le : (slot : ℕ) → centre slot ≤ 65536
centre-le slot = centred (either (eqb slot 2) (eqb slot 5))

-- ---- the general laws at the rows

module _ (gm_type flag slot : ℕ) where
  pub row-codable : (z : ℤ) → Codable (abs_bits gm_type flag slot) (prec_bits gm_type flag slot) (centre slot) (quantized gm_type flag slot z)
  row-codable z = quantized-codable (abs_bits gm_type flag slot) (prec_bits gm_type flag slot) (centre slot) z

  pub row-nearest : (z : ℤ) → Nearest (abs_bits gm_type flag slot) (prec_bits gm_type flag slot) (centre slot) z (ordinal_of (abs_bits gm_type flag slot) (prec_bits gm_type flag slot) (centre slot) z)
  row-nearest z = ordinal-nearest (abs_bits gm_type flag slot) (prec_bits gm_type flag slot) (centre slot) z

  pub row-own : (z : ℤ) → Codable (abs_bits gm_type flag slot) (prec_bits gm_type flag slot) (centre slot) z → quantized gm_type flag slot z ≡ z
  row-own z g = own-quantization (abs_bits gm_type flag slot) (prec_bits gm_type flag slot) (centre slot) z g

  pub row-negative : (z : ℤ) → centre slot ≡ 0 → quantized gm_type flag slot (neg_ℤ z) ≡ neg_ℤ (quantized gm_type flag slot z)
  row-negative z e = rw e (quantize-negative (abs_bits gm_type flag slot) (prec_bits gm_type flag slot) z)
