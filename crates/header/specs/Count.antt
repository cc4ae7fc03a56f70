-- How many bits a header takes: for each reference its type bits, and for each slot that its type carries the coefficient's bits.
-- docs/RULES.md, 'Header' and 'Reading by the standard'.
-- Assumes nothing.
use Rattle.std.specs.Prelude.{ℕ, ◌+◌, ◌*◌, List, [], ◌∷◌, ℤ, length, get_or}
use Rattle.laws.specs.Loops.{sum}
use Rattle.grid.specs.Slots.{slots_of}
use Rattle.header.specs.Writing.{type_bits, slot_bits}

-- f of each of a list, added
abbrev pub total : (ℕ → ℕ) → List ℕ → ℕ
total f [] = 0
total f (x ∷ xs) = f x + total f xs

module _ (flag : ℕ) (ps qs : List ℤ) (gm_type first : ℕ) where
  -- a slot of the model whose six begin at `first`
  abbrev pub slot_count : ℕ → ℕ
  slot_count slot = length (slot_bits flag ps qs gm_type first slot)

  unfoldable pub model_count : ℕ
  model_count = length (type_bits gm_type) + total slot_count (slots_of gm_type)

-- the seven references
unfoldable pub header_count : List ℕ → List ℤ → ℕ → List ℤ → ℕ
header_count types ps flag qs = sum (λ r. model_count flag ps qs (get_or types r 0) (6 * r)) 7
