-- The generator (docs/RULES.md, 'Practice belt'): what one step makes of a state of 32 bits, the state after so many steps, and the pel that it gives.
-- Assumes nothing.
use Rattle.std.specs.Prelude.{ℕ, zero, suc, ◌+◌, ◌*◌, ◌/◌, ◌%◌, ◌^◌}

-- f, so many times
abbrev pub times : (ℕ → ℕ) → ℕ → ℕ → ℕ
times f zero s = s
times f (suc i) s = f (times f i s)

-- a times the state plus c, wrapping at 32 bits
abbrev pub stepped : ℕ → ℕ → ℕ → ℕ
stepped a c s = (a * s + c) % 2 ^ 32

abbrev pub multiplier : ℕ
multiplier = 1664525

abbrev pub increment : ℕ
increment = 1013904223

-- one step of the generator
abbrev pub next : ℕ → ℕ
next s = stepped multiplier increment s

-- bits 16 to 31 of a state
abbrev pub upper_half : ℕ → ℕ
upper_half s = s / 65536

-- pel i, counted from 0: the first from the state after one step
abbrev pub noise : ℕ → ℕ → ℕ
noise seed i = upper_half (times next (suc i) seed)
