-- What the functions below the public calls ask and answer; no public contract cites it.
-- Assumes nothing.
use Rattle.std.specs.Prelude.{ℕ, ◌+◌, ◌*◌, ◌/◌, ◌≤◌, ◌<◌, Bool, true, List, ◌≡◌, ltb, length, get_or}
use Rattle.laws.specs.Loops.{sum}
use Rattle.laws.specs.Parts.{listing}
use Rattle.laws.specs.Refusal.{choose}
use Rattle.plane.specs.Difference.{difference}
use Rattle.cost.specs.declared.Added.{Added}
use Rattle.cost.specs.Inner.{AtMost}
use Rattle.lanes.specs.declared.Counted.{Counted}

-- one for a cost below the best
abbrev pub live : ℕ → ℕ → ℕ
live best cost = choose (ltb cost best) 1 0

-- each pel of a block once for each lane
unfoldable pub spread_of : List ℕ → List ℕ
spread_of block = listing (λ i. get_or block (i / 8) 0) (8 * length block)

-- a row of lane k: 8 spread pels against the window's from column k on
unfoldable pub lane_row : List ℕ → List ℕ → ℕ → ℕ
lane_row row part k = sum (λ j. difference (get_or row (8 * j + k) 0) (get_or part (j + k) 0)) 8

-- row i of lane k, lane 0 being laid at row y, column x of the window
unfoldable pub lane_cost : List ℕ → List ℕ → ℕ → ℕ → ℕ → ℕ → ℕ
lane_cost spread window y x k i = sum (λ j. difference (get_or spread (i * 64 + (8 * j + k)) 0) (get_or window ((y + i) * 32 + x + (j + k)) 0)) 8

unfoldable pub lane_costs : List ℕ → List ℕ → ℕ → ℕ → ℕ → List ℕ
lane_costs spread window y x k = listing (lane_cost spread window y x k) 8

-- a row of a spread block, and the pels that its lanes reach
pub record LaneRow (row part : List ℕ) : Type 0 where
  pub pels : length row ≡ 64
  pub seen : length part ≡ 15

-- no pel is over 8,191, where this is said
pub record IfLow (said : Bool) (pels : List ℕ) : Type 0 where
  pub then : said ≡ true → AtMost 8191 pels

-- a row of every lane
pub record LowSums (row part sums : List ℕ) : Type 0 where
  pub same : sums ≡ listing (lane_row row part) 8
  pub small : (k : ℕ) → k < 8 → lane_row row part k ≤ 65528

-- costs that a row can be added to
pub record Room (costs : List ℕ) : Type 0 where
  pub each : (k : ℕ) → k < 8 → get_or costs k 0 ≤ 4000000000

-- the costs with a row of each lane added
pub record Grown (costs row part sums : List ℕ) : Type 0 where
  pub same : sums ≡ listing (λ k. get_or costs k 0 + lane_row row part k) 8
  pub small : (k : ℕ) → k < 8 → lane_row row part k ≤ 524280

-- offset costs
pub record Starts (costs : List ℕ) : Type 0 where
  pub each : (k : ℕ) → k < 8 → get_or costs k 0 ≤ 512

-- a spread block, a window, and eight candidates side by side from row y, column x of it on
pub record Laned (spread window : List ℕ) (y x : ℕ) : Type 0 where
  pub pels : length spread ≡ 512
  pub seen : length window ≡ 1024
  pub rows : y + 8 ≤ 32
  pub columns : x + 15 ≤ 32

-- the rows of eight sums and how many of them are below the best
pub record Counts (best : ℕ) (sums : ℕ → Added) (counted : Counted) : Type 0 where
  pub all_rows : counted.rows ≡ sum (λ k. (sums k).rows) 8
  pub all_below : counted.below ≡ sum (λ k. live best (sums k).cost) 8
  pub few : counted.rows ≤ 64
