-- The three stages with sums that end early (docs/RULES.md, 'Rows added'): the same motions, and how many rows are added to find them.
-- docs/RULES.md, 'Search'.
-- Assumes nothing.
use Rattle.std.specs.Prelude.{ℕ, ◌+◌, ◌/◌, List, eqb, ℤ, pos, ◌*ℤ◌, nat_abs, length}
use Rattle.laws.specs.Loops.{run}
use Rattle.laws.specs.Refusal.{choose}
use Rattle.plane.specs.declared.Place.{Place}
use Rattle.cost.specs.declared.Added.{Added}
use Rattle.cost.specs.Ended.{total, ended, row_costs, eighths_costs}
use Rattle.stage.specs.Stage.{Found, better, square, row_offset, column_offset}

-- the best so far, and the rows added so far
pub record Tally : Type 0 where
  pub best : Found
  pub rows : ℕ

-- a start has no best to reach: all its rows, and no offset
abbrev pub begun : (ℤ → ℤ → List ℕ) → ℤ → ℤ → Tally
begun costs dy dx = record { best = record { cost = total (costs dy dx); dy = dy; dx = dx }; rows = length (costs dy dx) }

-- a candidate's sum, as far as it went
abbrev pub tried : Tally → Added → ℤ → ℤ → Tally
tried t new dy dx = record { best = better t.best (record { cost = new.cost; dy = dy; dx = dx }); rows = t.rows + new.rows }

-- one candidate against the best so far; the centre itself, the middle one, is left out
unfoldable pub consider_early : (ℤ → ℤ → List ℕ) → (ℤ → ℤ → ℕ) → ℕ → ℕ → ℤ → ℤ → ℕ → Tally → Tally
consider_early costs offset_cost reach step cy cx k t =
    let dy = row_offset reach step cy k in
    let dx = column_offset reach step cx k in
    choose (eqb k (square reach / 2)) t (tried t (ended t.best.cost (offset_cost dy dx) 0 (costs dy dx)) dy dx)

-- all candidates around (cy, cx), in order
unfoldable pub scan_early : (ℤ → ℤ → List ℕ) → (ℤ → ℤ → ℕ) → ℕ → ℕ → ℤ → ℤ → Tally → Tally
scan_early costs offset_cost reach step cy cx t = run (consider_early costs offset_cost reach step cy cx) 0 (square reach) t

-- the cost of an offset by whole pels; in eighths nothing is added
abbrev pub magnitudes : ℤ → ℤ → ℕ
magnitudes dy dx = nat_abs dy + nat_abs dx

abbrev pub nothing : ℤ → ℤ → ℕ
nothing v u = 0

unfoldable pub coarse_early : List ℕ → List ℕ → Place → Tally
coarse_early input ref place =
    let costs = row_costs 8 input ref place in
    scan_early costs magnitudes 12 1 (pos 0) (pos 0) (begun costs (pos 0) (pos 0))

unfoldable pub full_pel_early : List ℕ → List ℕ → Place → ℤ → ℤ → Tally
full_pel_early input ref place cy cx =
    let costs = row_costs 16 input ref place in
    scan_early costs magnitudes 3 1 cy cx (begun costs cy cx)

unfoldable pub eighths_step_early : List ℕ → List ℕ → Place → ℕ → Tally → Tally
eighths_step_early input ref place step t = scan_early (eighths_costs input ref place) nothing 1 step t.best.dy t.best.dx t

unfoldable pub refined_early : List ℕ → List ℕ → Place → ℤ → ℤ → Tally
refined_early input ref place v u =
    let step = eighths_step_early input ref place in
    step 1 (step 2 (step 4 (begun (eighths_costs input ref place) v u)))

-- full pel from (cy, cx), then eighths from eight times its winner
unfoldable pub fine_early : List ℕ → List ℕ → Place → ℤ → ℤ → Tally
fine_early input ref place cy cx =
    let full = full_pel_early input ref place cy cx in
    let last = refined_early input ref place (pos 8 *ℤ full.best.dy) (pos 8 *ℤ full.best.dx) in
    record { best = last.best; rows = full.rows + last.rows }
