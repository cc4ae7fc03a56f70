-- What the functions below the public calls ask and answer; no public contract cites it.
-- Assumes nothing.
use Rattle.std.specs.Prelude.{ℕ, ◌+◌, ◌*◌, ◌-◌, ◌/◌, ◌≤◌, ◌<◌, min, List, ◌≡◌, length, get_or}
use Rattle.plane.specs.Plane.{mean_of_four, largest_side, row_by_row, down, right}
use Rattle.plane.specs.Clamp.{displaced, offset}
use Rattle.plane.specs.declared.Place.{Place}
use Rattle.plane.specs.declared.Offset.{Offset}

-- one row of a half plane from the two rows that it halves
abbrev pub half_of_rows : List ℕ → List ℕ → ℕ → ℕ
half_of_rows top bottom c =
    mean_of_four (get_or top (2 * c) 0) (get_or top (2 * c + 1) 0) (get_or bottom (2 * c) 0) (get_or bottom (2 * c + 1) 0)

-- two rows with a pair of pels for each of n places
pub record RowPair (top bottom : List ℕ) (n : ℕ) : Type 0 where
  pub above : n * 2 ≤ length top
  pub below : n * 2 ≤ length bottom

-- the plane has the two rows that row r of its half plane halves, and the buffer has room for that row
pub record RowRoom (p out : List ℕ) (w r : ℕ) : Type 0 where
  pub narrow : w ≤ largest_side
  pub row_small : r ≤ largest_side
  pub rows : 2 * r * w + w + w ≤ length p
  pub room : r * (w / 2) + w / 2 ≤ length out

-- a plane and a buffer that holds its half plane
pub record Halvable (p out : List ℕ) (w h : ℕ) : Type 0 where
  pub narrow : w ≤ largest_side
  pub low : h ≤ largest_side
  pub pels : h * w ≡ length p
  pub room : h / 2 * (w / 2) ≤ length out

-- the result is this value, and at most this bound
pub record Is (value bound result : ℕ) : Type 0 where
  pub same : result ≡ value
  pub small : result ≤ bound

-- sides that row 1 lets pass
pub record Small (w h : ℕ) : Type 0 where
  pub narrow : w ≤ largest_side
  pub low : h ≤ largest_side

-- a place not far past the plane, and a biased offset that is small
pub record Close (place : Place) (by : Offset) : Type 0 where
  pub r_small : place.r ≤ 2 * largest_side
  pub c_small : place.c ≤ 2 * largest_side
  pub y_small : by.y ≤ 512
  pub x_small : by.x ≤ 512

-- a plane of its sides, and a place and a biased offset that are small
pub record Near (p : List ℕ) (place : Place) (by : Offset) : Type 0 where
  pub wide : 0 < place.width
  pub high : 0 < place.height
  pub small : Small place.width place.height
  pub pels : place.height * place.width ≡ length p
  pub close : Close place by

-- n pels from a place on lie inside
pub record RowIn (n : ℕ) (place : Place) : Type 0 where
  pub small : Small place.width place.height
  pub row : place.r < place.height
  pub columns : place.c + n ≤ place.width

-- the n columns from a place on, displaced by x less the bias, lie inside
pub record Inside (n : ℕ) (place : Place) (x bias : ℕ) : Type 0 where
  pub left : bias ≤ place.c + x
  pub right : place.c + x + n ≤ place.width + bias

-- n pels from a place on, displaced, have their columns inside
pub record Lands (n : ℕ) (place : Place) (by : Offset) (bias : ℕ) : Type 0 where
  pub small : Small place.width place.height
  pub high : 0 < place.height
  pub close : Close place by
  pub inside : Inside n place by.x bias

-- where a place lands whose columns stay inside: the row is clamped
abbrev pub landing : Place → Offset → ℕ → Place
landing place by bias =
    record {
      width = place.width;
      height = place.height;
      r = min (place.r + by.y - bias) (place.height - 1);
      c = place.c + by.x - bias;
    }

-- n pels from a place on begin at s
pub record Starts (n : ℕ) (place : Place) (s : ℕ) : Type 0 where
  pub same : s ≡ place.r * place.width + place.c
  pub inside : s + n ≤ place.height * place.width

-- pel b of the pels from a place on, each displaced
abbrev pub row_pel : List ℕ → Place → Offset → ℕ → ℕ → ℕ
row_pel plane place by bias b = displaced plane (right place b) (offset bias by.y) (offset bias by.x)

-- row a, column b of a window
abbrev pub window_pel : List ℕ → Place → Offset → ℕ → ℕ → ℕ → ℕ
window_pel plane place by bias a b = row_pel plane (down place a) by bias b

unfoldable pub window_of : List ℕ → Place → Offset → ℕ → ℕ → List ℕ
window_of plane place by bias side = row_by_row (window_pel plane place by bias) side side

-- a buffer of n values has row a of a window
pub record WindowRow (side a n : ℕ) : Type 0 where
  pub row : a * side + side ≤ n
  pub row_small : a ≤ 2 * largest_side
  pub narrow : side ≤ 2 * largest_side
