-- What the functions below the public calls ask and answer; no public contract cites it.
-- Assumes nothing.
use Rattle.std.specs.Prelude.{ℕ, ◌<◌, List, ◌≡◌, get_or, Float}
use Rattle.std.specs.Float.{nan}
use Rattle.sample.specs.Word.{sides, motions, classes}

-- fields that a word can hold
pub record Held (r c v u k : ℕ) : Type 0 where
  pub row : r < sides
  pub col : c < sides
  pub motion-v : v < motions
  pub motion-u : u < motions
  pub class : k < classes

-- a table of the first n numbers of f
pub record Tabled (f : ℕ → Float) (n : ℕ) (t : List Float) : Type 0 where
  pub at : (k : ℕ) → k < n → get_or t k nan ≡ f k
