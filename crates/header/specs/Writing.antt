-- A header as bits: references 1 to 7, each its type bits and its coefficients in the standard's order, then zeros to the byte's end; and what a call writes.
-- docs/RULES.md, 'Header'; clauses 5.9.24 and 5.9.25.
-- Assumes nothing.
use Rattle.std.specs.Prelude.{ℕ, zero, suc, ◌+◌, ◌*◌, ◌/◌, Bool, not, List, [], ◌∷◌, ◌++◌, ltb, eqb, ℤ, pos, length, get_or}
use Rattle.laws.specs.Call.{answered, left}
use Rattle.laws.specs.Refusal.{Row, row, choose, either, judge, or_else}
use Rattle.bits.specs.Bits.{put_bits}
use Rattle.bits.specs.Fields.{pad_bits}
use Rattle.grid.specs.Slots.{slots_of}
use Rattle.models.specs.Models.{types_over, models_wrong, priors_out, start_over}
use Rattle.header.specs.Coefficient.{coefficient_bits}
use Rattle.header.specs.declared.Written.{Written}

-- is_global, is_rot_zoom, is_translation: 0, 101, 11, 100 for types 0 to 3
abbrev pub type_bits : ℕ → List ℕ
type_bits gm_type =
    choose (eqb gm_type 0) (0 ∷ []) (choose (eqb gm_type 2) (1 ∷ 1 ∷ []) (choose (eqb gm_type 1) (1 ∷ 0 ∷ 1 ∷ []) (1 ∷ 0 ∷ 0 ∷ [])))

-- the number of a slot, of the model whose six begin at `first`
abbrev pub slot_of : List ℤ → ℕ → ℕ → ℤ
slot_of ps first slot = get_or ps (first + slot) (pos 0)

module _ (flag : ℕ) (ps qs : List ℤ) (gm_type first : ℕ) where
  -- one slot
  abbrev pub slot_bits : ℕ → List ℕ
  slot_bits slot = coefficient_bits gm_type flag slot (slot_of ps first slot) (slot_of qs first slot)

  -- several, one behind the other
  abbrev pub slots_bits : List ℕ → List ℕ
  slots_bits [] = []
  slots_bits (slot ∷ slots) = slot_bits slot ++ slots_bits slots

  -- those that the type carries
  unfoldable pub model_bits : List ℕ
  model_bits = slots_bits (slots_of gm_type)

  unfoldable pub reference_bits : List ℕ
  reference_bits = type_bits gm_type ++ model_bits

-- n references from r on
abbrev pub references_bits : ℕ → List ℤ → List ℤ → List ℕ → ℕ → ℕ → List ℕ
references_bits flag ps qs types zero r = []
references_bits flag ps qs types (suc n) r = reference_bits flag ps qs (get_or types r 0) (6 * r) ++ references_bits flag ps qs types n (r + 1)

-- the seven references
unfoldable pub header_bits : List ℕ → List ℤ → ℕ → List ℤ → List ℕ
header_bits types ps flag qs = references_bits flag ps qs types 7 0

-- ---- the public call

-- of types, of their numbers, of the priors
abbrev pub lengths_wrong : ℕ → ℕ → ℕ → Bool
lengths_wrong types ps qs = either (not (eqb types 7)) (either (not (eqb ps 42)) (not (eqb qs 42)))

-- the bytes that hold so many bits from the bit `start` of the first byte on
abbrev pub bytes_for : ℕ → ℕ → ℕ
bytes_for start n = (start + n + 7) / 8

-- the bits from `start` on, and zeros up to the end of the last byte
abbrev pub bits_placed : ℕ → List ℕ → List ℕ → List ℕ
bits_placed start bits old = put_bits old start (bits ++ pad_bits (start + length bits))

abbrev pub too_short : ℕ → List ℕ → List ℤ → ℕ → List ℤ → ℕ → Bool
too_short start types ps flag qs room = ltb room (bytes_for start (length (header_bits types ps flag qs)))

-- row 2, then row 4 for the types and for the flag
abbrev pub code_rows : List ℕ → List ℤ → ℕ → List ℤ → List Row
code_rows types ps flag qs =
    row 2 (lengths_wrong (length types) (length ps) (length qs)) ∷ row 4 (types_over types) ∷ row 4 (ltb 1 flag) ∷ []

-- row 14 for the start, row 7 for the models, row 8 for the priors
abbrev pub model_rows : ℕ → List ℕ → List ℤ → ℕ → List ℤ → List Row
model_rows start types ps flag qs = row 14 (start_over start) ∷ row 7 (models_wrong types flag ps) ∷ row 8 (priors_out qs) ∷ []

-- row 3 for the room
abbrev pub room_rows : ℕ → List ℕ → List ℤ → ℕ → List ℤ → ℕ → List Row
room_rows start types ps flag qs room = row 3 (too_short start types ps flag qs room) ∷ []

unfoldable pub write_refusal : ℕ → List ℕ → List ℤ → ℕ → List ℤ → ℕ → ℕ
write_refusal start types ps flag qs room =
    or_else (judge (code_rows types ps flag qs)) (or_else (judge (model_rows start types ps flag qs)) (judge (room_rows start types ps flag qs room)))

abbrev pub not_written : ℕ → Written
not_written n = record { refusal = n; bits = 0 }

unfoldable pub written : ℕ → List ℕ → List ℤ → ℕ → List ℤ → ℕ → Written
written start types ps flag qs room =
    answered not_written (write_refusal start types ps flag qs room) (record { refusal = 0; bits = length (header_bits types ps flag qs) })

-- the lent bytes at exit
unfoldable pub header_after : ℕ → List ℕ → List ℤ → ℕ → List ℤ → List ℕ → List ℕ
header_after start types ps flag qs header =
    left (write_refusal start types ps flag qs (length header)) (bits_placed start (header_bits types ps flag qs) header) header
