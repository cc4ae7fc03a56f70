-- What the functions below the public calls ask and answer; no public contract cites it.
-- Assumes nothing.
use Rattle.std.specs.Prelude.{ℕ, ◌*◌, ◌/◌, ◌≤◌, ◌<◌, List, ◌≡◌, length}
use Rattle.plane.specs.declared.Place.{Place}
use Rattle.plane.specs.Inner.{Small}
use Rattle.search.specs.Search.{Scene, block_columns, block_rows, sample_count, word_at, motion_early}
use Rattle.search.specs.Band.{band_count}
use Rattle.search.specs.declared.blocks.Sampled.{Sampled}

-- two planes, and as many values for each half plane as it has
pub record Halves (s : Scene) : Type 0 where
  pub small : Small s.width s.height
  pub input_pels : s.height * s.width ≡ length s.input
  pub ref_pels : s.height * s.width ≡ length s.ref
  pub input_half_pels : s.height / 2 * (s.width / 2) ≡ length s.input_half
  pub ref_half_pels : s.height / 2 * (s.width / 2) ≡ length s.ref_half

-- a whole block, by its row and column of blocks
pub record Inside (block : Place) : Type 0 where
  pub row : block.r < block_rows block.height
  pub column : block.c < block_columns block.width

-- block rows that are there, and room for a word of each of their samples
pub record Band (w h first end : ℕ) (words : List ℕ) : Type 0 where
  pub rising : first ≤ end
  pub there : end ≤ block_rows h
  pub room : band_count w first end ≤ length words

-- what an accepted call with samples knows
pub record Ready (input ref : List ℕ) (w h : ℕ) (input_half ref_half words : List ℕ) : Type 0 where
  pub small : Small w h
  pub input_pels : h * w ≡ length input
  pub ref_pels : h * w ≡ length ref
  pub words_room : sample_count w h ≤ length words
  pub input_room : h / 2 * (w / 2) ≤ length input_half
  pub ref_room : h / 2 * (w / 2) ≤ length ref_half

-- a block's word, and the rows added to find it
abbrev pub sampled_at : Scene → ℕ → ℕ → Sampled
sampled_at s R C = record { word = word_at s R C; rows = (motion_early s R C).rows }
