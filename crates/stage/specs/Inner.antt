-- What the functions below the public calls ask and answer; no public contract cites it.
-- Assumes nothing.
use Rattle.std.specs.Prelude.{ℕ, ◌+◌, ◌*◌, ◌-◌, ◌/◌, ◌%◌, ◌≤◌, ◌<◌, Bool, List, ◌≡◌, ltb, eqb, length, get_or}
use Rattle.laws.specs.Loops.{run}
use Rattle.laws.specs.Refusal.{choose}
use Rattle.plane.specs.declared.Place.{Place}
use Rattle.plane.specs.declared.Offset.{Offset}
use Rattle.plane.specs.Clamp.{offset}
use Rattle.plane.specs.Difference.{difference}
use Rattle.plane.specs.Inner.{Small}
use Rattle.cost.specs.declared.Added.{Added}
use Rattle.cost.specs.Ended.{ended, total}
use Rattle.cost.specs.Inner.{window_costs, bilinear_window_costs, AtMost}
use Rattle.lanes.specs.Inner.{spread_of, IfLow}
use Rattle.stage.specs.declared.Best.{Best}
use Rattle.stage.specs.Stage.{square}
use Rattle.stage.specs.Early.{Tally}

-- what a best candidate stands for
abbrev pub seen : ℕ → Best → Tally
seen bias best =
    record { best = record { cost = best.cost; dy = offset bias best.y; dx = offset bias best.x }; rows = best.rows }

abbrev pub replaced : Best → Added → Offset → Best
replaced best new by =
    choose (ltb new.cost best.cost)
    (record { cost = new.cost; y = by.y; x = by.x; rows = best.rows + new.rows })
    (record { cost = best.cost; y = best.y; x = best.x; rows = best.rows + new.rows })

-- a best that no candidate replaced, with so many rows more
abbrev pub more_rows : Best → ℕ → Best
more_rows best n = record { cost = best.cost; y = best.y; x = best.x; rows = best.rows + n }

-- a start: its motion, its whole cost and all its rows
abbrev pub start_of : List ℕ → ℕ → ℕ → Best
start_of costs y x = record { cost = total costs; y = y; x = x; rows = length costs }

-- the k-th candidate of a stage: its row costs, its offset's cost and its motion; the middle one is left out
unfoldable pub turn : (ℕ → List ℕ) → (ℕ → ℕ) → (ℕ → Offset) → ℕ → ℕ → Best → Best
turn costs offset_cost motion reach k best =
    choose (eqb k (square reach / 2)) best (replaced best (ended best.cost (offset_cost k) 0 (costs k)) (motion k))

-- |dy| + |dx| of a biased offset
abbrev pub magnitudes_of : ℕ → Offset → ℕ
magnitudes_of bias by = difference by.y bias + difference by.x bias

abbrev pub at : ℕ → ℕ → Offset
at y x = record { y = y; x = x }

-- coarse: the block laid on the window, 25 × 25 places
abbrev pub coarse_motion : ℕ → Offset
coarse_motion k = at (k / 25) (k % 25)

abbrev pub coarse_turn : List ℕ → List ℕ → ℕ → Best → Best
coarse_turn block window = turn (λ k. window_costs 8 32 block window (k / 25) (k % 25)) (λ k. magnitudes_of 12 (coarse_motion k)) coarse_motion 12

unfoldable pub coarse_in : List ℕ → List ℕ → Best
coarse_in block window = run (coarse_turn block window) 0 625 (start_of (window_costs 8 32 block window 12 12) 12 12)

-- full pel: 7 × 7 places around a centre, which lies at row 4, column 4 of the window
abbrev pub full_motion : Offset → ℕ → Offset
full_motion centre k = at (centre.y + k / 7 - 3) (centre.x + k % 7 - 3)

abbrev pub full_turn : Offset → List ℕ → List ℕ → ℕ → Best → Best
full_turn centre block window =
    turn (λ k. window_costs 16 24 block window (k / 7 + 1) (k % 7 + 1)) (λ k. magnitudes_of 27 (full_motion centre k)) (full_motion centre) 3

unfoldable pub full_pel_in : Offset → List ℕ → List ℕ → Best
full_pel_in centre block window = run (full_turn centre block window) 0 49 (start_of (window_costs 16 24 block window 4 4) centre.y centre.x)

-- eighths: 3 × 3 motions around a centre, a step apart
abbrev pub step_motion : Offset → ℕ → ℕ → Offset
step_motion centre step k = at (centre.y + k / 3 * step - step) (centre.x + k % 3 * step - step)

abbrev pub step_turn : Offset → Offset → ℕ → List ℕ → List ℕ → ℕ → Best → Best
step_turn corner centre step block window =
    turn (λ k. bilinear_window_costs block window corner (step_motion centre step k)) (λ k. 0) (step_motion centre step) 1

unfoldable pub step_in : Offset → ℕ → List ℕ → List ℕ → Best → Best
step_in corner step block window start = run (step_turn corner (at start.y start.x) step block window) 0 9 start

abbrev pub steps_in : Offset → List ℕ → List ℕ → Best → Best
steps_in corner block window first = step_in corner 1 block window (step_in corner 2 block window (step_in corner 4 block window first))

unfoldable pub refined_in : Offset → Offset → List ℕ → List ℕ → Best
refined_in corner start block window = steps_in corner block window (start_of (bilinear_window_costs block window corner start) start.y start.x)

-- both: the full pel's winner, and eighths from eight times that
abbrev pub eightfold : Offset → Offset
eightfold full = at (8 * full.y + 7) (8 * full.x + 7)

unfoldable pub fine_in : Offset → List ℕ → List ℕ → Best
fine_in centre block window =
    let full = full_pel_in centre block window in
    let last = refined_in centre (eightfold (at full.y full.x)) block window in
    record { cost = last.cost; y = last.y; x = last.x; rows = full.rows + last.rows }

-- a block and a window of the coarse stage, or of the two others
pub record Coarse (block window : List ℕ) : Type 0 where
  pub pels : length block ≡ 64
  pub seen : length window ≡ 1024

pub record Fine (block window : List ℕ) : Type 0 where
  pub pels : length block ≡ 256
  pub seen : length window ≡ 576

-- the part of an offset's cost that each of 25 columns has
pub record Columns (costs : List ℕ) : Type 0 where
  pub long : length costs ≡ 25
  pub each : (x : ℕ) → x < 25 → get_or costs x 0 ≡ difference x 12

-- a block with each pel once for each lane, whether the pels of both fit sums of 16 bits, and the columns' costs
pub record Spread (low : Bool) (block spread window columns : List ℕ) : Type 0 where
  pub same : spread ≡ spread_of block
  pub spread_low : IfLow low spread
  pub window_low : IfLow low window
  pub column_costs : Columns columns

-- eight candidates side by side in 25 columns, none of them the start
pub record Beside (y x : ℕ) : Type 0 where
  pub row : y < 25
  pub columns : x + 8 ≤ 25
  pub apart : y ≡ 12 → ⊥

-- their offset costs
pub record Offsets (y x : ℕ) (costs : List ℕ) : Type 0 where
  pub each : (k : ℕ) → k < 8 → get_or costs k 0 ≡ magnitudes_of 12 (at y (x + k))
  pub small : (k : ℕ) → k < 8 → get_or costs k 0 ≤ 512

-- a block, and the bytes of a window
pub record FineBytes (block highs lows : List ℕ) : Type 0 where
  pub pels : length block ≡ 256
  pub high_pels : length highs ≡ 576
  pub low_pels : length lows ≡ 576
  pub high_bytes : AtMost 255 highs
  pub low_bytes : AtMost 255 lows

-- it is this candidate, and has at most n rows more than before
pub record Next (n before : ℕ) (value result : Best) : Type 0 where
  pub same : result ≡ value
  pub few : result.rows ≤ before + n

-- (y, x) lies within `reach` of a centre
pub record Lies (reach cy cx y x : ℕ) : Type 0 where
  pub y_low : cy ≤ y + reach
  pub y_high : y ≤ cy + reach
  pub x_low : cx ≤ x + reach
  pub x_high : x ≤ cx + reach

-- rows that can be counted on
pub record Countable (best : Best) (new : Added) : Type 0 where
  pub few : best.rows ≤ 10000
  pub more : new.rows ≤ 16

-- it stands for this motion and these rows, n at most, and lies in 0 .. last
pub record Leads (bias last n : ℕ) (tally : Tally) (best : Best) : Type 0 where
  pub same : seen bias best ≡ tally
  pub y_last : best.y ≤ last
  pub x_last : best.x ≤ last
  pub few : best.rows ≤ n

-- two planes of the place's sides
pub record Planes (input ref : List ℕ) (place : Place) : Type 0 where
  pub small : Small place.width place.height
  pub input_pels : place.height * place.width ≡ length input
  pub ref_pels : place.height * place.width ≡ length ref

-- a block of n × n pels inside its sides
pub record Block (n : ℕ) (place : Place) : Type 0 where
  pub rows : place.r + n ≤ place.height
  pub columns : place.c + n ≤ place.width

-- a centre from which every candidate within n stays in 0 .. last
pub record Roomy (n last cy cx : ℕ) : Type 0 where
  pub y_low : n ≤ cy
  pub y_high : cy + n ≤ last
  pub x_low : n ≤ cx
  pub x_high : cx + n ≤ last

-- a motion in eighths from which the window about `corner` has every other within `reach`
pub record Around (reach corner motion : ℕ) : Type 0 where
  pub low : 8 * corner + reach ≤ motion + 24
  pub high : motion + reach ≤ 8 * corner + 38

-- both numbers of a motion
pub record Steady (reach : ℕ) (corner motion : Offset) : Type 0 where
  pub y_around : Around reach corner.y motion.y
  pub x_around : Around reach corner.x motion.x

-- a biased offset that is small
pub record Priceable (by : Offset) (bias : ℕ) : Type 0 where
  pub y_small : by.y ≤ 256
  pub x_small : by.x ≤ 256
  pub bias_small : bias ≤ 256

-- it is what both find, from a centre on, and lies in 0 .. 446
pub record FineIn (centre : Offset) (block window : List ℕ) (best : Best) : Type 0 where
  pub same : best ≡ fine_in centre block window
  pub few : best.rows ≤ 1248
  pub y_last : best.y ≤ 446
  pub x_last : best.x ≤ 446
