-- Forward elimination, operation by operation: the pivot of a column, its row exchanged, the rows below reduced.
-- docs/RULES.md, 'Fits and score'.
-- Assumes nothing.
use Rattle.std.specs.Prelude.{ℕ, ◌+◌, ◌*◌, Bool, List, get_or, set, Float, Result, Ok, Err}
use Rattle.std.specs.Float.{nan, binary64}
use Rattle.std.specs.Float.Ieee.{lt, eq, neg, of_bits}
use Rattle.laws.specs.Loops.{run}
use Rattle.laws.specs.Refusal.{choose}
use Rattle.laws.specs.Binary64.{◌⊖◌, ◌⊗◌, ◌⊘◌, nought}
use Rattle.solve.specs.declared.Singular.{Singular}

-- the magnitude: of a zero the positive one, of a not-a-number itself
unfoldable pub abs_of : Float → Float
abs_of x = choose (lt x nought) (neg x) (choose (eq x nought) nought x)

-- the binary64 nearest 1e-9
abbrev pub least_pivot : Float
least_pivot = of_bits binary64 0x3e11_2e0b_e826_d695

-- a pivot below it refuses; a not-a-number is below nothing
abbrev pub too_small : Float → Bool
too_small pivot = lt (abs_of pivot) least_pivot

-- a matrix and its right side
pub record System : Type 0 where
  pub a : List Float
  pub b : List Float

abbrev pub system : List Float → List Float → System
system a b = record { a = a; b = b }

-- a matrix lies row by row, four entries to a row
abbrev pub entry : List Float → ℕ → ℕ → Float
entry a row col = get_or a (row * 4 + col) nan

abbrev pub right : List Float → ℕ → Float
right b row = get_or b row nan

-- a later row takes the pivot's place only for a strictly larger magnitude
abbrev pub pivot_step : List Float → ℕ → ℕ → ℕ → ℕ
pivot_step a col row pivot = choose (lt (abs_of (entry a pivot col)) (abs_of (entry a row col))) row pivot

abbrev pub pivot_of : ℕ → List Float → ℕ → ℕ
pivot_of size a col = run (pivot_step a col) (col + 1) size col

-- two rows change places, the right side with them
abbrev pub exchange_at : ℕ → ℕ → ℕ → List Float → List Float
exchange_at first second k a = set (set a (first * 4 + k) (entry a second k)) (second * 4 + k) (entry a first k)

unfoldable pub exchanged_rows : ℕ → ℕ → ℕ → List Float → List Float
exchanged_rows size first second a = run (exchange_at first second) 0 size a

abbrev pub exchange_right : ℕ → ℕ → List Float → List Float
exchange_right first second b = set (set b first (right b second)) second (right b first)

abbrev pub exchanged : ℕ → ℕ → ℕ → System → System
exchanged size first second s = system (exchanged_rows size first second s.a) (exchange_right first second s.b)

-- a row less its multiple of the pivot row, from the pivot's own column on, and so the right side
abbrev pub factor_of : ℕ → ℕ → List Float → Float
factor_of col row a = entry a row col ⊘ entry a col col

abbrev pub reduce_at : ℕ → ℕ → Float → ℕ → List Float → List Float
reduce_at col row factor k a = set a (row * 4 + k) (entry a row k ⊖ factor ⊗ entry a col k)

unfoldable pub reduced_row : ℕ → ℕ → ℕ → List Float → List Float
reduced_row size col row a = run (reduce_at col row (factor_of col row a)) col size a

abbrev pub reduce_right : ℕ → ℕ → Float → List Float → List Float
reduce_right col row factor b = set b row (right b row ⊖ factor ⊗ right b col)

abbrev pub reduce_row : ℕ → ℕ → ℕ → System → System
reduce_row size col row s = system (reduced_row size col row s.a) (reduce_right col row (factor_of col row s.a) s.b)

unfoldable pub reduced : ℕ → ℕ → System → System
reduced size col s = run (reduce_row size col) (col + 1) size s

-- how an elimination ends: solved, or a pivot was too small
abbrev pub Outcome : Type 0
Outcome = Result (Unit {0}) Singular

abbrev pub solvable : Outcome
solvable = Ok tt

abbrev pub singular : Outcome
singular = Err (record {})

-- where an elimination stands: the system so far, and whether a pivot was too small
pub record Elimination : Type 0 where
  pub system : System
  pub outcome : Outcome

abbrev pub eliminating : System → Outcome → Elimination
eliminating s o = record { system = s; outcome = o }

abbrev pub pivoted : ℕ → ℕ → ℕ → System → Elimination
pivoted size col pivot s =
    choose (too_small (entry s.a pivot col)) (eliminating s singular)
    (eliminating (reduced size col (exchanged size col pivot s)) solvable)

unfoldable pub column : ℕ → ℕ → System → Elimination
column size col s = pivoted size col (pivot_of size s.a col) s

abbrev pub unless_singular : {A : Type 0} → Outcome → A → A → A
unless_singular (Err _) a b = a
unless_singular (Ok _) a b = b

-- a refused column ends the elimination
abbrev pub column_step : ℕ → ℕ → Elimination → Elimination
column_step size col e = unless_singular e.outcome e (column size col e.system)

unfoldable pub eliminated : ℕ → System → Elimination
eliminated size s = run (column_step size) 0 size (eliminating s solvable)
