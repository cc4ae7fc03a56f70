-- What it is to be the nearest codable number: docs/RULES.md, 'Grid', the last sentence.
-- Assumes nothing.
use Rattle.std.specs.Prelude.{ℕ, ◌<◌, ◌≡◌, ◌≢◌, ◌⊎◌, ℤ, nat_abs, ◌-ℤ◌}
use Rattle.grid.specs.Grid.{number, Ordinal}

abbrev pub distance : ℤ → ℤ → ℕ
distance z w = nat_abs (z -ℤ w)

-- of the ordinals of a slot, k is the nearest to z: every other is farther, or equally far and nearer to ordinal 0
pub record Nearest (abs prec c : ℕ) (z k : ℤ) : Type 0 where
  pub in-range : Ordinal abs k
  pub others :
      (j : ℤ) → Ordinal abs j → j ≢ k
      → (distance z (number prec c k) < distance z (number prec c j))
      ⊎ ((distance z (number prec c k) ≡ distance z (number prec c j)) × (nat_abs j < nat_abs k))
