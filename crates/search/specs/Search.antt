-- The search of docs/RULES.md: the motion of a block, the sample words of a frame pair, and how many there are.
-- docs/RULES.md, 'Search'.
-- Assumes nothing.
use Rattle.std.specs.Prelude.{ℕ, ◌+◌, ◌*◌, ◌/◌, ◌%◌, List, ℤ, pos, negsuc, ◌+ℤ◌, ◌*ℤ◌}
use Rattle.laws.specs.Loops.{sum}
use Rattle.laws.specs.Parts.{listing}
use Rattle.sample.specs.Sample.{motion_bias}
use Rattle.sample.specs.Word.{word_of}
use Rattle.plane.specs.declared.Place.{Place}
use Rattle.plane.specs.Plane.{half_plane}
use Rattle.stage.specs.Stage.{Found, coarse, full_pel, refined}
use Rattle.stage.specs.Early.{Tally, coarse_early, fine_early}

-- whole 16 × 16 blocks: in a row of blocks, in a column, and in all; none where a side is under 16
abbrev pub block_columns : ℕ → ℕ
block_columns w = w / 16

abbrev pub block_rows : ℕ → ℕ
block_rows h = h / 16

abbrev pub sample_count : ℕ → ℕ → ℕ
sample_count w h = block_rows h * block_columns w

-- the block at block row R, column C of a plane w wide and h high, n pels each way
abbrev pub block_at : ℕ → ℕ → ℕ → ℕ → ℕ → Place
block_at n w h R C = record { width = w; height = h; r = R * n; c = C * n }

-- what blocks are searched in: two planes of these sides, and what stands for their half planes
pub record Scene : Type 0 where
  pub input : List ℕ
  pub ref : List ℕ
  pub width : ℕ
  pub height : ℕ
  pub input_half : List ℕ
  pub ref_half : List ℕ

abbrev pub scene : List ℕ → List ℕ → ℕ → ℕ → List ℕ → List ℕ → Scene
scene input ref w h input_half ref_half =
    record { input = input; ref = ref; width = w; height = h; input_half = input_half; ref_half = ref_half }

-- a search's own: the half planes are those of its planes
abbrev pub halved : List ℕ → List ℕ → ℕ → ℕ → Scene
halved input ref w h = scene input ref w h (half_plane input w h) (half_plane ref w h)

-- the motion in eighths of the block at block row R, column C: coarse on the half planes, full pel from twice its winner, eighths from eight times that
unfoldable pub motion_in : Scene → ℕ → ℕ → Found
motion_in s R C =
    let far = coarse s.input_half s.ref_half (block_at 8 (s.width / 2) (s.height / 2) R C) in
    let full = full_pel s.input s.ref (block_at 16 s.width s.height R C) (pos 2 *ℤ far.dy) (pos 2 *ℤ far.dx) in
    refined s.input s.ref (block_at 16 s.width s.height R C) (pos 8 *ℤ full.dy) (pos 8 *ℤ full.dx)

abbrev pub motion : List ℕ → List ℕ → ℕ → ℕ → ℕ → ℕ → Found
motion input ref w h R C = motion_in (halved input ref w h) R C

-- the same with sums that end early, and the rows added to find it
unfoldable pub motion_early : Scene → ℕ → ℕ → Tally
motion_early s R C =
    let far = coarse_early s.input_half s.ref_half (block_at 8 (s.width / 2) (s.height / 2) R C) in
    let last = fine_early s.input s.ref (block_at 16 s.width s.height R C) (pos 2 *ℤ far.best.dy) (pos 2 *ℤ far.best.dx) in
    record { best = last.best; rows = far.rows + last.rows }

-- a motion as it is stored: its eighths plus 223
abbrev pub natural : ℤ → ℕ
natural (pos n) = n
natural (negsuc n) = 0

abbrev pub stored : ℤ → ℕ
stored m = natural (m +ℤ pos motion_bias)

-- the word of a block: its place and its motion, with class bits zero
abbrev pub word_at : Scene → ℕ → ℕ → ℕ
word_at s R C = word_of R C (stored (motion_in s R C).dy) (stored (motion_in s R C).dx) 0

-- the k-th sample's word: blocks row by row
unfoldable pub sample_word : Scene → ℕ → ℕ
sample_word s k = word_at s (k / block_columns s.width) (k % block_columns s.width)

unfoldable pub sample_words : List ℕ → List ℕ → ℕ → ℕ → List ℕ
sample_words input ref w h = listing (sample_word (halved input ref w h)) (sample_count w h)

-- the rows added for the k-th sample, and for all; none with no samples
abbrev pub sample_rows : Scene → ℕ → ℕ
sample_rows s k = (motion_early s (k / block_columns s.width) (k % block_columns s.width)).rows

unfoldable pub rows_added : List ℕ → List ℕ → ℕ → ℕ → ℕ
rows_added input ref w h = sum (sample_rows (halved input ref w h)) (sample_count w h)
