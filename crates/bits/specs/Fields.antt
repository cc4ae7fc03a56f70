-- A field: a number as n bits, high bit first (clause 4.10.2), written as a list of bits and read from a stream of bits.
-- docs/RULES.md, 'Header' and 'Reading by the standard'.
-- Assumes nothing.
use Rattle.std.specs.Prelude.{ℕ, zero, suc, ◌+◌, ◌-◌, ◌*◌, ◌%◌, ◌^◌, List, [], ◌∷◌}
use Rattle.bits.specs.Bits.{bit_of}

-- the low n bits of v
abbrev pub field_bits : ℕ → ℕ → List ℕ
field_bits zero v = []
field_bits (suc n) v = bit_of v n ∷ field_bits n v

-- f(n) at position j
abbrev pub field : (ℕ → ℕ) → ℕ → ℕ → ℕ
field g j zero = 0
field g j (suc n) = g j * 2 ^ n + field g (j + 1) n

-- zero bits from position j up to the end of its byte
abbrev pub padding : ℕ → ℕ
padding j = (8 - j % 8) % 8

abbrev pub pad_bits : ℕ → List ℕ
pad_bits j = field_bits (padding j) 0
