-- A half plane and a band of the search as calls of their own: when they say no, what they answer and what they leave (docs/RULES.md, 'Bands', rows 1, 2, 3 and 1, 2, 5, 3).
-- Assumes nothing.
use Rattle.std.specs.Prelude.{ℕ, ◌*◌, ◌/◌, Bool, not, List, [], ◌∷◌, ltb, eqb, length}
use Rattle.laws.specs.Buffer.{onto}
use Rattle.laws.specs.Refusal.{Row, row, judge, or_else, either}
use Rattle.laws.specs.Call.{answered, left}
use Rattle.plane.specs.Plane.{half_plane}
use Rattle.search.specs.declared.Searched.{Searched}
use Rattle.search.specs.Search.{Scene, block_rows}
use Rattle.search.specs.Band.{band_count, band_words, band_rows}
use Rattle.search.specs.Refusal.{too_large, refused}

-- how many values a half plane has
abbrev pub half_count : ℕ → ℕ → ℕ
half_count w h = h / 2 * (w / 2)

-- ---- a half plane

-- over the lengths of the plane and of the buffer
abbrev pub half_rows : ℕ → ℕ → ℕ → ℕ → List Row
half_rows w h pels room = row 1 (too_large w h) ∷ row 2 (not (eqb pels (h * w))) ∷ row 3 (ltb room (half_count w h)) ∷ []

unfoldable pub half_refusal : ℕ → ℕ → ℕ → ℕ → ℕ
half_refusal w h pels room = judge (half_rows w h pels room)

-- the half plane from the front of the buffer
abbrev pub half_left : List ℕ → ℕ → ℕ → List ℕ → List ℕ
half_left plane w h old = left (half_refusal w h (length plane) (length old)) (onto (half_plane plane w h) old) old

-- ---- a band

-- row 2: a plane, or what stands for a half plane, of wrong length
abbrev pub wrong_lengths : ℕ → ℕ → ℕ → ℕ → ℕ → ℕ → Bool
wrong_lengths w h input ref input_half ref_half =
    either (not (eqb input (h * w)))
    (either (not (eqb ref (h * w))) (either (not (eqb input_half (half_count w h))) (not (eqb ref_half (half_count w h)))))

-- row 5: a band that ends before it begins, or behind the last block row
abbrev pub not_there : ℕ → ℕ → ℕ → Bool
not_there h first end = either (ltb end first) (ltb (block_rows h) end)

-- the rows in the table's order, in two groups: of the planes, then of the band and the words lent
abbrev pub plane_rows : ℕ → ℕ → ℕ → ℕ → ℕ → ℕ → List Row
plane_rows w h input ref input_half ref_half = row 1 (too_large w h) ∷ row 2 (wrong_lengths w h input ref input_half ref_half) ∷ []

abbrev pub band_rows_of : ℕ → ℕ → ℕ → ℕ → ℕ → List Row
band_rows_of w h first end room = row 5 (not_there h first end) ∷ row 3 (ltb room (band_count w first end)) ∷ []

unfoldable pub band_refusal : ℕ → ℕ → ℕ → ℕ → ℕ → ℕ → ℕ → ℕ → ℕ → ℕ
band_refusal w h input ref input_half ref_half first end room =
    or_else (judge (plane_rows w h input ref input_half ref_half)) (judge (band_rows_of w h first end room))

abbrev pub refusal : Scene → ℕ → ℕ → ℕ → ℕ
refusal s first end room =
    band_refusal s.width s.height (length s.input) (length s.ref) (length s.input_half) (length s.ref_half) first end room

-- the answer, and the words left from the front of the buffer
abbrev pub searched_band : Scene → ℕ → ℕ → ℕ → Searched
searched_band s first end room =
    answered refused (refusal s first end room) (record { refusal = 0; samples = band_count s.width first end; rows = band_rows s first end })

abbrev pub words_left : Scene → ℕ → ℕ → List ℕ → List ℕ
words_left s first end old = left (refusal s first end (length old)) (onto (band_words s first end) old) old
