-- A band of the search: block rows `first` to `end` - 1 of what is searched (docs/RULES.md, 'Bands').
-- Assumes nothing.
use Rattle.std.specs.Prelude.{ℕ, ◌+◌, ◌*◌, ◌-◌, List}
use Rattle.laws.specs.Loops.{sum}
use Rattle.laws.specs.Parts.{listing}
use Rattle.search.specs.Search.{Scene, block_columns, sample_word, sample_rows}

-- how many samples it has, and which of all the samples its k-th is
abbrev pub band_count : ℕ → ℕ → ℕ → ℕ
band_count w first end = (end - first) * block_columns w

abbrev pub band_at : ℕ → ℕ → ℕ → ℕ
band_at w first k = first * block_columns w + k

-- their words, row by row
unfoldable pub band_words : Scene → ℕ → ℕ → List ℕ
band_words s first end = listing (λ k. sample_word s (band_at s.width first k)) (band_count s.width first end)

-- the rows added for them
unfoldable pub band_rows : Scene → ℕ → ℕ → ℕ
band_rows s first end = sum (λ k. sample_rows s (band_at s.width first k)) (band_count s.width first end)
