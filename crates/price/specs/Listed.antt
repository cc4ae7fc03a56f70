-- How many codes of each length a slot of any abs_bits of 3 or more has: 8 of 4 bits, 2 ^ j of 2 j - 1 for j from 3 to abs_bits - 1,
-- 2 ^ abs_bits - 1 of 2 abs_bits - 2, and 2 of 2 abs_bits - 1. At 3 the first and the third meet.
-- docs/RULES.md, 'Prices'.
-- Assumes nothing.
use Rattle.std.specs.Prelude.{ℕ, ◌+◌, ◌-◌, ◌*◌, ◌^◌, Bool, eqb}
use Rattle.laws.specs.Loops.{sum}
use Rattle.laws.specs.Refusal.{choose}

-- n where the test holds, otherwise none
abbrev pub when : Bool → ℕ → ℕ
when test n = choose test n 0

-- the codes that end on a rung between the first and the last
abbrev pub between : ℕ → ℕ → ℕ
between abs bits = sum (λ i. when (eqb bits (2 * (3 + i) - 1)) (2 ^ (3 + i))) (abs - 3)

-- the codes of so many bits
unfoldable pub listed : ℕ → ℕ → ℕ
listed abs bits =
    when (eqb bits 4) 8 + between abs bits + when (eqb bits (2 * abs - 2)) (2 ^ abs - 1) + when (eqb bits (2 * abs - 1)) 2
