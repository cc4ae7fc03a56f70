-- Reading seven models by the standard from a bit position: docs/RULES.md, 'Reading by the standard'; clauses 5.9.24 and 5.9.25.
-- Assumes nothing.
use Rattle.std.specs.Prelude.{ℕ, zero, suc, ◌+◌, ◌*◌, List, [], ◌∷◌, ◌++◌, eqb, ℤ, pos, get_or}
use Rattle.laws.specs.Refusal.{choose}
use Rattle.bits.specs.Bits.{bit_at}
use Rattle.grid.specs.Slots.{slots_of}
use Rattle.models.specs.Models.{carries, filler}
use Rattle.header.specs.Coefficient.{ReadNumber, coefficient}
use Rattle.header.specs.Writing.{slot_of}

-- is_global, is_rot_zoom, is_translation at position j
abbrev pub type_read : (ℕ → ℕ) → ℕ → ℕ
type_read g j = choose (eqb (g j) 0) 0 (choose (eqb (g (j + 1)) 1) 2 (choose (eqb (g (j + 2)) 1) 1 3))

abbrev pub type_length : ℕ → ℕ
type_length gm_type = choose (eqb gm_type 0) 1 (choose (eqb gm_type 2) 2 3)

-- numbers in the order of reading, and how many bits were taken
pub record ReadNumbers : Type 0 where
  pub values : List ℤ
  pub bits : ℕ

-- a type, six numbers, and how many bits were taken
pub record ReadModel : Type 0 where
  pub gm_type : ℕ
  pub six : List ℤ
  pub bits : ℕ

-- ---- six numbers from those that were read

-- where a slot stands in a list of slots
abbrev pub place_in : ℕ → List ℕ → ℕ
place_in slot [] = 0
place_in slot (s ∷ slots) = choose (eqb s slot) 0 (suc (place_in slot slots))

module _ (gm_type : ℕ) (values : List ℤ) where
  -- the number read for a slot
  abbrev pub number_at : ℕ → ℤ
  number_at slot = get_or values (place_in slot (slots_of gm_type)) (pos 0)

  -- a slot that the type doesn't carry is filled
  abbrev pub slot_filled : ℕ → ℤ
  slot_filled slot = choose (carries gm_type slot) (number_at slot) (filler gm_type slot (number_at 2) (number_at 3))

  unfoldable pub six_filled : List ℤ
  six_filled = slot_filled 0 ∷ slot_filled 1 ∷ slot_filled 2 ∷ slot_filled 3 ∷ slot_filled 4 ∷ slot_filled 5 ∷ []

-- ---- references

module _ (g : ℕ → ℕ) (flag : ℕ) (qs : List ℤ) where
  -- the coefficients of several slots, one behind the other, from position j on
  abbrev pub slots_read : ℕ → ℕ → List ℕ → ℕ → ReadNumbers
  slots_read gm_type first [] j = record { values = []; bits = 0 }
  slots_read gm_type first (slot ∷ slots) j =
      let a : ReadNumber = coefficient g j gm_type flag slot (slot_of qs first slot) in
      let rest : ReadNumbers = slots_read gm_type first slots (j + a.bits) in
      record { values = a.value ∷ rest.values; bits = a.bits + rest.bits }

  -- those that the type carries
  unfoldable pub model_read : ℕ → ℕ → ℕ → ReadModel
  model_read gm_type first j =
      let t : ReadNumbers = slots_read gm_type first (slots_of gm_type) j in
      record { gm_type = gm_type; six = six_filled gm_type t.values; bits = t.bits }

  -- one reference: the type bits, then the coefficients
  unfoldable pub reference_read : ℕ → ℕ → ReadModel
  reference_read first j =
      let gm_type : ℕ = type_read g j in
      let m : ReadModel = model_read gm_type first (j + type_length gm_type) in
      record { gm_type = gm_type; six = m.six; bits = type_length gm_type + m.bits }

pub record ReadModels : Type 0 where
  pub types : List ℕ
  pub params : List ℤ
  pub bits : ℕ

-- n references from r on
abbrev pub references_read : (ℕ → ℕ) → ℕ → List ℤ → ℕ → ℕ → ℕ → ReadModels
references_read g flag qs zero r j = record { types = []; params = []; bits = 0 }
references_read g flag qs (suc n) r j =
    let m : ReadModel = reference_read g flag qs (6 * r) j in
    let rest : ReadModels = references_read g flag qs n (r + 1) (j + m.bits) in
    record { types = m.gm_type ∷ rest.types; params = m.six ++ rest.params; bits = m.bits + rest.bits }

-- the seven models at position `at` of the bytes, and the bits that they take
unfoldable pub models_read : List ℕ → ℕ → ℕ → List ℤ → ReadModels
models_read header at flag qs = references_read (bit_at header) flag qs 7 0 at
