-- The two planes of a practice belt, w wide and h high (docs/RULES.md, 'Practice belt').
-- Assumes nothing.
use Rattle.std.specs.Prelude.{ℕ, ◌*◌, List, ℤ}
use Rattle.laws.specs.Parts.{listing}
use Rattle.plane.specs.Plane.{row_by_row}
use Rattle.plane.specs.Clamp.{displaced}
use Rattle.generator.specs.Generator.{noise}

-- pels of noise, row by row
unfoldable pub reference_plane : ℕ → ℕ → ℕ → List ℕ
reference_plane seed w h = listing (noise seed) (h * w)

-- at row r, column c the reference pel at (r + dy, c + dx), coordinates clamped
unfoldable pub input_plane : List ℕ → ℕ → ℕ → ℤ → ℤ → List ℕ
input_plane reference w h dy dx =
    row_by_row (λ r c. displaced reference (record { width = w; height = h; r = r; c = c }) dy dx) w h
