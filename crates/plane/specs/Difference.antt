-- By how much two pels, or two numbers, differ.
-- docs/RULES.md, 'Search'.
-- Assumes nothing.
use Rattle.std.specs.Prelude.{ℕ, ◌+◌, ◌-◌}

abbrev pub difference : ℕ → ℕ → ℕ
difference a b = (a - b) + (b - a)
