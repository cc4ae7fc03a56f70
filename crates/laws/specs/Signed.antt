-- The sign of a whole number.
-- docs/RULES.md, 'Grid'.
-- Assumes nothing.
use Rattle.std.specs.Prelude.{Bool, true, false, ℤ, pos, negsuc}

abbrev pub negative : ℤ → Bool
negative (pos n) = false
negative (negsuc n) = true
