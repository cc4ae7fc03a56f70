-- What the functions below the public calls ask and answer; no public contract cites it.
-- Assumes nothing.
use Rattle.std.specs.Prelude.{ℕ, ◌+◌, ◌*◌, ◌-◌, ◌≤◌, List, ◌≡◌, length, get_or}
use Rattle.laws.specs.Parts.{listing}
use Rattle.plane.specs.declared.Offset.{Offset}
use Rattle.cost.specs.Cost.{bilinear}
use Rattle.cost.specs.Inner.{AtMost, Reached}
use Rattle.blend.specs.declared.Weights.{Weights}

-- a pel of its high and its low byte
abbrev pub pel_of : ℕ → ℕ → ℕ
pel_of high low = 256 * high + low

-- the pels of a window, from its high and its low bytes
unfoldable pub window_from : List ℕ → List ℕ → List ℕ
window_from highs lows = listing (λ i. pel_of (get_or highs i 0) (get_or lows i 0)) (length highs)

-- weights 8 - f and f each way, so many times
abbrev pub weights_of : ℕ → ℕ → ℕ → Weights
weights_of times fy fx =
    record { w00 = times * ((8 - fy) * (8 - fx)); w01 = times * ((8 - fy) * fx); w10 = times * (fy * (8 - fx)); w11 = times * (fy * fx) }

abbrev pub weighed : Weights → ℕ → ℕ → ℕ → ℕ → ℕ
weighed w a b c d = a * w.w00 + b * w.w01 + c * w.w10 + d * w.w11

-- pel j of a row, blended from the pels at j and j + 1 of a row of 24 and of the next
unfoldable pub predicted_from : ℕ → ℕ → List ℕ → List ℕ → ℕ → ℕ
predicted_from fy fx highs lows j =
    bilinear fy fx
    (pel_of (get_or highs j 0) (get_or lows j 0))
    (pel_of (get_or highs (j + 1) 0) (get_or lows (j + 1) 0))
    (pel_of (get_or highs (j + 24) 0) (get_or lows (j + 24) 0))
    (pel_of (get_or highs (j + 24 + 1) 0) (get_or lows (j + 24 + 1) 0))

-- four bytes
pub record Four (a b c d : ℕ) : Type 0 where
  pub first : a ≤ 255
  pub second : b ≤ 255
  pub third : c ≤ 255
  pub fourth : d ≤ 255

-- weights that are so many in all
pub record Weighs (n : ℕ) (w : Weights) : Type 0 where
  pub in_all : w.w00 + w.w01 + w.w10 + w.w11 ≤ n

-- the bytes that a row is predicted from
pub record ByteRows (highs lows : List ℕ) : Type 0 where
  pub high_pels : length highs ≡ 41
  pub low_pels : length lows ≡ 41
  pub high_bytes : AtMost 255 highs
  pub low_bytes : AtMost 255 lows

-- a block, the bytes of a window, and a motion whose pels lie in it
pub record Aimed (block highs lows : List ℕ) (corner motion : Offset) : Type 0 where
  pub pels : length block ≡ 256
  pub high_pels : length highs ≡ 576
  pub low_pels : length lows ≡ 576
  pub high_bytes : AtMost 255 highs
  pub low_bytes : AtMost 255 lows
  pub y_reached : Reached corner.y motion.y
  pub x_reached : Reached corner.x motion.x
