-- Back-substitution from the last row, and the answer of a system: its unknowns, or that a pivot was refused.
-- docs/RULES.md, 'Fits and score'.
-- Assumes nothing.
use Rattle.std.specs.Prelude.{ℕ, ◌+◌, ◌-◌, List, get_or, set, replicate, Float, Result, Ok, Err}
use Rattle.std.specs.Float.{nan}
use Rattle.laws.specs.Loops.{run}
use Rattle.laws.specs.Binary64.{◌⊖◌, ◌⊗◌, ◌⊘◌, nought}
use Rattle.solve.specs.declared.Singular.{Singular}
use Rattle.solve.specs.Elimination.{System, entry, right, Outcome, solvable, singular, Elimination, eliminated, unless_singular}

abbrev pub residue_step : List Float → List Float → ℕ → ℕ → Float → Float
residue_step a x row k acc = acc ⊖ entry a row k ⊗ get_or x k nan

-- the right side of a row less the unknowns already found
unfoldable pub residue_of : ℕ → System → List Float → ℕ → Float
residue_of size s x row = run (residue_step s.a x row) (row + 1) size (right s.b row)

-- the unknown of a row
abbrev pub unknown_at : ℕ → System → ℕ → List Float → List Float
unknown_at size s row x = set x row (residue_of size s x row ⊘ entry s.a row row)

-- of the i-th row from below
abbrev pub unknown_step : ℕ → System → ℕ → List Float → List Float
unknown_step size s i x = unknown_at size s (size - 1 - i) x

abbrev pub zeros : List Float
zeros = replicate 4 nought

unfoldable pub unknowns_from : ℕ → System → List Float → List Float
unknowns_from size s x = run (unknown_step size s) 0 size x

abbrev pub unknowns : ℕ → System → List Float
unknowns size s = unknowns_from size s zeros

-- the outcome, and the unknowns beside it: zeros where the system is singular
pub record Solution : Type 0 where
  pub outcome : Outcome
  pub x : List Float

abbrev pub solution : Outcome → List Float → Solution
solution o x = record { outcome = o; x = x }

-- what a call answers: the unknowns, or that the system is singular
abbrev pub solution_of : Result (List Float) Singular → Solution
solution_of (Ok x) = solution solvable x
solution_of (Err _) = solution singular zeros

abbrev pub outcome_of : Result (List Float) Singular → Outcome
outcome_of r = (solution_of r).outcome

abbrev pub answer_of : ℕ → Elimination → Solution
answer_of size e = unless_singular e.outcome (solution singular zeros) (solution solvable (unknowns size e.system))

abbrev pub solved : ℕ → System → Solution
solved size s = answer_of size (eliminated size s)

-- the number of docs/RULES.md that an outcome stands for
abbrev pub number_of : Outcome → ℕ
number_of (Ok _) = 0
number_of (Err _) = 6
