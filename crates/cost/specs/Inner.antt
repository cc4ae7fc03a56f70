-- What the functions below the public calls ask and answer; no public contract cites it.
-- Assumes nothing.
use Rattle.std.specs.Prelude.{ℕ, ◌+◌, ◌*◌, ◌-◌, ◌/◌, ◌%◌, ◌≤◌, ◌<◌, List, ◌≡◌, length, get_or}
use Rattle.laws.specs.Loops.{sum}
use Rattle.laws.specs.Parts.{listing}
use Rattle.plane.specs.declared.Offset.{Offset}
use Rattle.plane.specs.Difference.{difference}
use Rattle.cost.specs.declared.Added.{Added}
use Rattle.cost.specs.Cost.{bilinear}

-- no number of a list is over n
pub record AtMost (n : ℕ) (l : List ℕ) : Type 0 where
  pub each : (i : ℕ) → i < length l → get_or l i 0 ≤ n

-- parts of n pels
pub record Rows (n : ℕ) (a b : List ℕ) : Type 0 where
  pub first : length a ≡ n
  pub second : length b ≡ n

-- by how much the first n pels differ
unfoldable pub row_difference : ℕ → List ℕ → List ℕ → ℕ
row_difference n a b = sum (λ j. difference (get_or a j 0) (get_or b j 0)) n

-- eighths of a pel
pub record Fractions (fy fx : ℕ) : Type 0 where
  pub fy_small : fy < 8
  pub fx_small : fx < 8

-- n × n pels of a block, a window of so many pels each way, and n × n pels of it from row y, column x on
pub record Framed (n side : ℕ) (block window : List ℕ) (y x : ℕ) : Type 0 where
  pub pels : length block ≡ n * n
  pub seen : length window ≡ side * side
  pub rows : y + n ≤ side
  pub columns : x + n ≤ side

-- row i of the block against the window's
unfoldable pub window_cost : ℕ → ℕ → List ℕ → List ℕ → ℕ → ℕ → ℕ → ℕ
window_cost n side block window y x i = sum (λ j. difference (get_or block (i * n + j) 0) (get_or window ((y + i) * side + x + j) 0)) n

unfoldable pub window_costs : ℕ → ℕ → List ℕ → List ℕ → ℕ → ℕ → List ℕ
window_costs n side block window y x = listing (window_cost n side block window y x) n

-- row i of n pels of the block against those predicted from the window's
unfoldable pub bilinear_window_cost : ℕ → ℕ → List ℕ → List ℕ → ℕ → ℕ → ℕ → ℕ → ℕ → ℕ
bilinear_window_cost n side block window y x fy fx i =
    sum
    (λ j.
    difference (get_or block (i * n + j) 0)
    (bilinear fy fx
    (get_or window ((y + i) * side + x + j) 0)
    (get_or window ((y + i) * side + x + (j + 1)) 0)
    (get_or window ((y + i) * side + x + side + j) 0)
    (get_or window ((y + i) * side + x + side + (j + 1)) 0)))
    n

-- a motion's whole pels from the window's first row or column on, the window lying about `corner`, and its fraction
abbrev pub whole_in : ℕ → ℕ → ℕ
whole_in corner m = (m + 1) / 8 + 3 - corner

abbrev pub fraction_of : ℕ → ℕ
fraction_of m = (m + 1) % 8

unfoldable pub bilinear_window_costs : List ℕ → List ℕ → Offset → Offset → List ℕ
bilinear_window_costs block window corner motion =
    listing
    (bilinear_window_cost 16 24 block window (whole_in corner.y motion.y) (whole_in corner.x motion.x) (fraction_of motion.y) (fraction_of motion.x))
    16

-- a motion in eighths, biased by 223, whose pels lie in the window about `corner`
pub record Reached (corner motion : ℕ) : Type 0 where
  pub low : 8 * corner ≤ motion + 24
  pub high : motion ≤ 8 * corner + 38
  pub small : motion ≤ 512

-- this sum, of n rows at most, and a cost that isn't near 2^32
pub record Sums (n : ℕ) (value result : Added) : Type 0 where
  pub same : result ≡ value
  pub few : result.rows ≤ n
  pub small : result.cost ≤ 16777472
