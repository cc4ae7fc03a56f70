-- A test that holds at some number below a limit: what a loop looks for.
-- docs/RULES.md, 'When a call says no'.
-- Assumes nothing.
use Rattle.std.specs.Prelude.{ℕ, zero, suc, Bool, false}
use Rattle.laws.specs.Refusal.{either}

abbrev pub any_below : (ℕ → Bool) → ℕ → Bool
any_below f zero = false
any_below f (suc n) = either (any_below f n) (f n)
