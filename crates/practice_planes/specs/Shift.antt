-- How far a practice belt's input may lie from its reference (docs/RULES.md, 'Practice belt').
-- Assumes nothing.
use Rattle.std.specs.Prelude.{ℕ}

-- in pels, either way
abbrev pub largest_shift : ℕ
largest_shift = 24
