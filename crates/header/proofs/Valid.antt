-- A model that a header can carry: its carried slots on the grid, the others filled.
-- Assumes nothing.
use Prim.Native.Nat.{ℕ, ◌≤◌, ◌<◌}
use mathlib.Core.Bool.{true, false}
use mathlib.Core.List.{List, [], ◌∷◌}
use mathlib.Core.Path.{◌≡◌}
use lib.IntN.{ℤ}
use Rattle.grid.specs.Grid.{abs_bits, prec_bits, centre, Codable}
use Rattle.models.specs.Models.{carries, filler}
use Rattle.header.specs.Writing.{slot_of}

-- the six numbers that begin at `first`
abbrev pub six_of : List ℤ → ℕ → List ℤ
six_of ps first = slot_of ps first 0 ∷ slot_of ps first 1 ∷ slot_of ps first 2 ∷ slot_of ps first 3 ∷ slot_of ps first 4 ∷ slot_of ps first 5 ∷ []

pub record ValidModel (gm_type flag : ℕ) (ps : List ℤ) (first : ℕ) : Type 0 where
  pub known : gm_type ≤ 3
  pub carried : (slot : ℕ) → slot < 6 → carries gm_type slot ≡ true → Codable (abs_bits gm_type flag slot) (prec_bits gm_type flag slot) (centre slot) (slot_of ps first slot)
  pub filled : (slot : ℕ) → slot < 6 → carries gm_type slot ≡ false → slot_of ps first slot ≡ filler gm_type slot (slot_of ps first 2) (slot_of ps first 3)
