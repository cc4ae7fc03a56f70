-- When the search says no (docs/RULES.md, rows 1, 2, 4, 3), what it answers, and what it leaves in the lent buffers.
-- docs/RULES.md, 'Search'.
-- Assumes nothing.
use Rattle.std.specs.Prelude.{ℕ, ◌*◌, ◌/◌, Bool, not, List, [], ◌∷◌, ◌≡◌, ltb, eqb, length}
use Rattle.laws.specs.Buffer.{onto}
use Rattle.laws.specs.Refusal.{Row, row, judge, or_else, choose, either, both}
use Rattle.laws.specs.Call.{answered, left}
use Rattle.class.specs.Class.{last_class, class_over}
use Rattle.plane.specs.Plane.{half_plane, largest_side}
use Rattle.search.specs.declared.Searched.{Searched}
use Rattle.search.specs.Search.{sample_count, sample_words, rows_added}

-- what goes in
pub record Task : Type 0 where
  pub input : List ℕ
  pub ref : List ℕ
  pub width : ℕ
  pub height : ℕ
  pub classes : List ℕ

-- what is lent
pub record Lent : Type 0 where
  pub input_half : List ℕ
  pub ref_half : List ℕ
  pub words : List ℕ

abbrev pub too_large : ℕ → ℕ → Bool
too_large w h = either (ltb largest_side w) (ltb largest_side h)

abbrev pub wrong_length : ℕ → ℕ → ℕ → ℕ → ℕ → Bool
wrong_length w h input ref classes =
    either (not (eqb input (h * w))) (either (not (eqb ref (h * w))) (not (eqb classes (sample_count w h))))

-- half planes, and words, one for each sample; with no samples none of these
abbrev pub too_short : ℕ → ℕ → ℕ → ℕ → ℕ → Bool
too_short w h input_half ref_half words =
    both (ltb 0 (sample_count w h))
    (either (ltb input_half (h / 2 * (w / 2))) (either (ltb ref_half (h / 2 * (w / 2))) (ltb words (sample_count w h))))

-- the rows in the table's order, over lengths: of what goes in, and then of what is lent
abbrev pub input_rows : ℕ → ℕ → ℕ → ℕ → List ℕ → List Row
input_rows w h input ref classes =
    row 1 (too_large w h) ∷ (row 2 (wrong_length w h input ref (length classes)) ∷ (row 4 (class_over last_class classes) ∷ []))

abbrev pub lent_rows : ℕ → ℕ → ℕ → ℕ → ℕ → List Row
lent_rows w h input_half ref_half words = row 3 (too_short w h input_half ref_half words) ∷ []

unfoldable pub verdict : ℕ → ℕ → ℕ → ℕ → List ℕ → ℕ → ℕ → ℕ → ℕ
verdict w h input ref classes input_half ref_half words =
    or_else (judge (input_rows w h input ref classes)) (judge (lent_rows w h input_half ref_half words))

abbrev pub refusal : Task → Lent → ℕ
refusal t l =
    verdict t.width t.height (length t.input) (length t.ref) t.classes (length l.input_half) (length l.ref_half) (length l.words)

-- a refused search has found nothing
abbrev pub refused : ℕ → Searched
refused n = record { refusal = n; samples = 0; rows = 0 }

unfoldable pub answer : Task → Lent → Searched
answer t l =
    answered refused (refusal t l)
    (record { refusal = 0; samples = sample_count t.width t.height; rows = rows_added t.input t.ref t.width t.height })

-- the half planes and the words, from the front of each buffer; with no samples nothing
abbrev pub written : Task → Lent → Lent
written t l =
    choose (ltb 0 (sample_count t.width t.height))
    (record {
      input_half = onto (half_plane t.input t.width t.height) l.input_half;
      ref_half = onto (half_plane t.ref t.width t.height) l.ref_half;
      words = onto (sample_words t.input t.ref t.width t.height) l.words;
    })
    l

unfoldable pub leaves : Task → Lent → Lent
leaves t l = left (refusal t l) (written t l) l

-- the whole contract of a search
pub record Done (t : Task) (l : Lent) (result : Searched) (after : Lent) : Type 0 where
  pub answers : result ≡ answer t l
  pub buffers : after ≡ leaves t l

abbrev pub task : List ℕ → List ℕ → ℕ → ℕ → List ℕ → Task
task input ref width height classes = record { input = input; ref = ref; width = width; height = height; classes = classes }

abbrev pub lent : List ℕ → List ℕ → List ℕ → Lent
lent input_half ref_half words = record { input_half = input_half; ref_half = ref_half; words = words }
