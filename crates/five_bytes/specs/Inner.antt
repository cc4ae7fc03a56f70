-- What the functions of five bytes answer; no public contract cites it.
-- Assumes nothing.
use Rattle.std.specs.Prelude.{ℕ, ◌+◌, ◌*◌, ◌%◌, ◌^◌, List, get_or}

-- a byte, 0 past the end
abbrev pub byte_of : List ℕ → ℕ → ℕ
byte_of l i = get_or l i 0 % 2 ^ 8

-- five bytes from one on, the first highest
abbrev pub five_of : List ℕ → ℕ → ℕ
five_of l b = (((byte_of l b * 256 + byte_of l (b + 1)) * 256 + byte_of l (b + 2)) * 256 + byte_of l (b + 3)) * 256 + byte_of l (b + 4)
