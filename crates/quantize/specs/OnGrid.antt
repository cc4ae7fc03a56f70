-- Which grid numbers a fitted model has in which slots, and what it is for a slot's number to be the nearest codable one.
-- docs/RULES.md, 'Fits and score'.
-- Assumes nothing.
use Rattle.std.specs.Prelude.{ℕ, List, ◌≡◌, eqb, ℤ, get_or}
use Rattle.std.specs.Float.{nan}
use Rattle.laws.specs.Refusal.{choose}
use Rattle.grid.specs.Grid.{abs_bits, prec_bits, centre, number}
use Rattle.grid.specs.Nearest.{Nearest}
use Rattle.fit.specs.declared.Fitted.{Fitted}
use Rattle.fit.specs.Fitted.{model_of}
use Rattle.grid_number.specs.GridNumber.{grid_number}
use Rattle.quantize.specs.Quantize.{linear_of, refitted}

-- the grid numbers: slots 0 and 1 of the refit, slots 2 to 5 of the fitted model
abbrev pub grid_number_at : Fitted → ℕ → List ℕ → ℕ → ℤ
grid_number_at f flag ws i =
    choose (eqb i 0) (grid_number (refitted (linear_of f flag) ws).u)
    (choose (eqb i 1) (grid_number (refitted (linear_of f flag) ws).v)
    (grid_number (get_or (model_of f) i nan)))

-- a slot's number is the codable one nearest to z
pub record NearestAt (gm_type flag i : ℕ) (z p : ℤ) : Type 0 where
  pub ordinal : ℤ
  pub nearest : Nearest (abs_bits gm_type flag i) (prec_bits gm_type flag i) (centre i) z ordinal
  pub is : p ≡ number (prec_bits gm_type flag i) (centre i) ordinal
