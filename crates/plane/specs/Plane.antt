-- A plane as a list row by row, its pel at a row and a column, and its half plane (docs/RULES.md, 'Records' and 'Search').
-- Assumes nothing.
use Rattle.std.specs.Prelude.{ℕ, zero, suc, ◌+◌, ◌*◌, ◌/◌, List, [], ◌++◌, get_or}
use Rattle.laws.specs.Parts.{listing}
use Rattle.plane.specs.declared.Place.{Place}

-- the longest side that row 1 lets pass
abbrev pub largest_side : ℕ
largest_side = 1024

-- f r c for the rows r below h, in each for the columns c below w
abbrev pub row_by_row : {A : Type 0} → (ℕ → ℕ → A) → ℕ → ℕ → List A
row_by_row f w zero = []
row_by_row f w (suc h) = row_by_row f w h ++ listing (f h) w

-- the pel at row r, column c of a plane of width w
abbrev pub pel : List ℕ → ℕ → ℕ → ℕ → ℕ
pel p w r c = get_or p (r * w + c) 0

-- the pel at a place
abbrev pub pel_at : List ℕ → Place → ℕ
pel_at p place = pel p place.width place.r place.c

-- the place so many rows further down, and so many columns further right
abbrev pub down : Place → ℕ → Place
down place i = record { width = place.width; height = place.height; r = place.r + i; c = place.c }

abbrev pub right : Place → ℕ → Place
right place j = record { width = place.width; height = place.height; r = place.r; c = place.c + j }

-- four pels + 2, divided by 4, rounded down
abbrev pub mean_of_four : ℕ → ℕ → ℕ → ℕ → ℕ
mean_of_four a b c d = (a + b + c + d + 2) / 4

abbrev pub half_pel : List ℕ → ℕ → ℕ → ℕ → ℕ
half_pel p w r c =
    mean_of_four (pel p w (2 * r) (2 * c)) (pel p w (2 * r) (2 * c + 1)) (pel p w (2 * r + 1) (2 * c)) (pel p w (2 * r + 1) (2 * c + 1))

-- the half plane of a plane w wide and h high: sides halved downwards
unfoldable pub half_plane : List ℕ → ℕ → ℕ → List ℕ
half_plane p w h = row_by_row (half_pel p w) (w / 2) (h / 2)
