-- A lent buffer that was written from a position on: what stands before it, the new part, and after that what was there.
-- docs/RULES.md, 'When a call says no'.
-- Assumes nothing.
use Rattle.std.specs.Prelude.{ℕ, List, ◌++◌, take, drop}
use Rattle.laws.specs.Buffer.{onto}

abbrev pub placed : {A : Type 0} → ℕ → List A → List A → List A
placed at new old = take at old ++ onto new (drop at old)
