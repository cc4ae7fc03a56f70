-- When no practice belt is made (docs/RULES.md, rows 1, 18 and 3), what the call answers, and what it leaves in the lent buffers.
-- docs/RULES.md, 'Practice belt'.
-- Assumes nothing.
use Rattle.std.specs.Prelude.{ℕ, ◌*◌, Bool, List, [], ◌∷◌, ltb, ℤ, nat_abs, length}
use Rattle.laws.specs.Buffer.{onto}
use Rattle.laws.specs.Refusal.{Row, row, judge, either}
use Rattle.laws.specs.Call.{answered, left}
use Rattle.search.specs.Refusal.{too_large}
use Rattle.practice.specs.declared.Made.{Made}
use Rattle.practice_planes.specs.Belt.{reference_plane, input_plane}
use Rattle.practice_planes.specs.Shift.{largest_shift}

abbrev pub too_far : ℤ → ℤ → Bool
too_far dy dx = either (ltb largest_shift (nat_abs dy)) (ltb largest_shift (nat_abs dx))

-- both planes are output
abbrev pub too_short : ℕ → ℕ → ℕ → ℕ → Bool
too_short w h input reference = either (ltb input (h * w)) (ltb reference (h * w))

abbrev pub rows : ℕ → ℕ → ℤ → ℤ → ℕ → ℕ → List Row
rows w h dy dx input reference =
    row 1 (too_large w h) ∷ row 18 (too_far dy dx) ∷ row 3 (too_short w h input reference) ∷ []

-- over the lengths of the two buffers
unfoldable pub refusal : ℕ → ℕ → ℤ → ℤ → ℕ → ℕ → ℕ
refusal w h dy dx input reference = judge (rows w h dy dx input reference)

abbrev pub refused : ℕ → Made
refused n = record { refusal = n; pels = 0 }

abbrev pub made : ℕ → ℕ → ℤ → ℤ → ℕ → ℕ → Made
made w h dy dx input reference = answered refused (refusal w h dy dx input reference) (record { refusal = 0; pels = h * w })

-- each plane from the front of its buffer
abbrev pub reference_left : ℕ → ℕ → ℕ → ℤ → ℤ → ℕ → List ℕ → List ℕ
reference_left seed w h dy dx input reference =
    left (refusal w h dy dx input (length reference)) (onto (reference_plane seed w h) reference) reference

abbrev pub input_left : ℕ → ℕ → ℕ → ℤ → ℤ → ℕ → List ℕ → List ℕ
input_left seed w h dy dx reference input =
    left (refusal w h dy dx (length input) reference) (onto (input_plane (reference_plane seed w h) w h dy dx) input) input
