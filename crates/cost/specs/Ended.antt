-- Sums that end early (docs/RULES.md, 'Rows added'): after the first row that brings the sum, with any offset cost, to the best so far or above.
-- docs/RULES.md, 'Search'.
-- Assumes nothing.
use Rattle.std.specs.Prelude.{ℕ, ◌+◌, List, [], ◌∷◌, ltb, ℤ}
use Rattle.laws.specs.Refusal.{choose}
use Rattle.laws.specs.Parts.{listing}
use Rattle.plane.specs.declared.Place.{Place}
use Rattle.plane.specs.Plane.{down}
use Rattle.cost.specs.declared.Added.{Added}
use Rattle.cost.specs.Cost.{row_cost, bilinear_row_cost, whole, fraction}

-- the whole sum
abbrev pub total : List ℕ → ℕ
total [] = 0
total (c ∷ cs) = c + total cs

abbrev pub added : ℕ → ℕ → Added
added cost rows = record { cost = cost; rows = rows }

-- the sum that begins at `cost`, `rows` rows having been added: it goes on while it is below the best
abbrev pub ended : ℕ → ℕ → ℕ → List ℕ → Added
ended best cost rows [] = added cost rows
ended best cost rows (c ∷ cs) = choose (ltb (cost + c) best) (ended best (cost + c) (rows + 1) cs) (added (cost + c) (rows + 1))

-- the costs of the rows of n × n pels at a place, displaced by (dy, dx)
unfoldable pub row_costs : ℕ → List ℕ → List ℕ → Place → ℤ → ℤ → List ℕ
row_costs n input ref place dy dx = listing (λ i. row_cost n input ref (down place i) dy dx) n

-- the costs of the rows of 16 × 16 pels at a place, at a motion of (v, u) eighths
unfoldable pub eighths_costs : List ℕ → List ℕ → Place → ℤ → ℤ → List ℕ
eighths_costs input ref place v u = listing (λ i. bilinear_row_cost 16 input ref (down place i) (whole v) (whole u) (fraction v) (fraction u)) 16
