-- Bits of a buffer, counted from the high bit of its first byte: the bit at a position, and bits put there that leave all others.
-- docs/RULES.md, 'Header'.
-- Assumes nothing.
use Rattle.std.specs.Prelude.{ℕ, ◌+◌, ◌-◌, ◌*◌, ◌/◌, ◌%◌, ◌^◌, List, [], ◌∷◌, get_or, set}

-- the bit of weight 2 ^ k
abbrev pub bit_of : ℕ → ℕ → ℕ
bit_of x k = x / 2 ^ k % 2

-- x with b as its bit of weight 2 ^ k
abbrev pub with_bit : ℕ → ℕ → ℕ → ℕ
with_bit x k b = x / 2 ^ (k + 1) * 2 ^ (k + 1) + (b * 2 ^ k + x % 2 ^ k)

-- the bit at position j, 0 past the end
unfoldable pub bit_at : List ℕ → ℕ → ℕ
bit_at l j = bit_of (get_or l (j / 8) 0) (7 - j % 8)

unfoldable pub put_bit : List ℕ → ℕ → ℕ → List ℕ
put_bit l j b = set l (j / 8) (with_bit (get_or l (j / 8) 0) (7 - j % 8) b)

-- a list of bits from position j on
abbrev pub put_bits : List ℕ → ℕ → List ℕ → List ℕ
put_bits l j [] = l
put_bits l j (b ∷ bs) = put_bits (put_bit l j b) (j + 1) bs
