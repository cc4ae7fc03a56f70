-- The three stages of the search for one block (docs/RULES.md, 'Search'), by signed motions.
-- Assumes nothing.
use Rattle.std.specs.Prelude.{ℕ, ◌+◌, ◌*◌, ◌/◌, ◌%◌, List, ltb, eqb, ℤ, pos, ◌+ℤ◌, nat_abs}
use Rattle.laws.specs.Loops.{run}
use Rattle.laws.specs.Refusal.{choose}
use Rattle.plane.specs.declared.Place.{Place}
use Rattle.plane.specs.Clamp.{offset}
use Rattle.cost.specs.Cost.{block_cost, eighths_cost}

-- a motion and its cost
pub record Found : Type 0 where
  pub cost : ℕ
  pub dy : ℤ
  pub dx : ℤ

-- a motion at its price
abbrev pub priced : (ℤ → ℤ → ℕ) → ℤ → ℤ → Found
priced price dy dx = record { cost = price dy dx; dy = dy; dx = dx }

-- only a strictly smaller cost replaces the best
abbrev pub better : Found → Found → Found
better best new = choose (ltb new.cost best.cost) new best

-- the offsets within `reach` steps each way: so many in a row, and in all
abbrev pub side : ℕ → ℕ
side reach = 2 * reach + 1

abbrev pub square : ℕ → ℕ
square reach = side reach * side reach

-- the k-th motion of the square around (cy, cx): dy outer, dx inner, both rising
abbrev pub row_offset : ℕ → ℕ → ℤ → ℕ → ℤ
row_offset reach step cy k = cy +ℤ offset (reach * step) (k / side reach * step)

abbrev pub column_offset : ℕ → ℕ → ℤ → ℕ → ℤ
column_offset reach step cx k = cx +ℤ offset (reach * step) (k % side reach * step)

-- one candidate; the centre itself, the middle one, is left out
unfoldable pub consider : (ℤ → ℤ → ℕ) → ℕ → ℕ → ℤ → ℤ → ℕ → Found → Found
consider price reach step cy cx k best =
    choose (eqb k (square reach / 2)) best (better best (priced price (row_offset reach step cy k) (column_offset reach step cx k)))

-- all candidates around (cy, cx), in order
unfoldable pub scan : (ℤ → ℤ → ℕ) → ℕ → ℕ → ℤ → ℤ → Found → Found
scan price reach step cy cx best = run (consider price reach step cy cx) 0 (square reach) best

-- a cost by whole pels, plus |dy| + |dx|
abbrev pub with_offset : (ℤ → ℤ → ℕ) → ℤ → ℤ → ℕ
with_offset price dy dx = price dy dx + nat_abs dy + nat_abs dx

-- coarse: 8 × 8 on half planes, start (0, 0), all offsets within 12
unfoldable pub coarse : List ℕ → List ℕ → Place → Found
coarse input ref place =
    let price = block_cost 8 input ref place in
    scan (with_offset price) 12 1 (pos 0) (pos 0) (priced price (pos 0) (pos 0))

-- full pel: 16 × 16, start at (cy, cx) without the added offset, the others within 3 of it with it
unfoldable pub full_pel : List ℕ → List ℕ → Place → ℤ → ℤ → Found
full_pel input ref place cy cx =
    let price = block_cost 16 input ref place in
    scan (with_offset price) 3 1 cy cx (priced price cy cx)

-- eight neighbours of the best held when the step began, nothing added
unfoldable pub eighths_step : List ℕ → List ℕ → Place → ℕ → Found → Found
eighths_step input ref place step best = scan (eighths_cost input ref place) 1 step best.dy best.dx best

-- eighths: start at (v, u), then steps 4, 2, 1
unfoldable pub refined : List ℕ → List ℕ → Place → ℤ → ℤ → Found
refined input ref place v u =
    let step = eighths_step input ref place in
    step 1 (step 2 (step 4 (priced (eighths_cost input ref place) v u)))
