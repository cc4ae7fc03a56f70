-- Bits that a stream holds from a position on, and lists of nothing but bits: what the laws of writing and reading speak of.
-- Assumes nothing.
use Prim.Native.Nat.{ℕ, ◌+◌, ◌<◌}
use mathlib.Core.List.{List, [], ◌∷◌}
use mathlib.Core.Path.{◌≡◌}

-- g has these bits from position j on
abbrev pub Holds : (ℕ → ℕ) → ℕ → List ℕ → Type 0
Holds g j [] = Unit {0}
Holds g j (b ∷ bs) = (g j ≡ b) × Holds g (j + 1) bs

-- each is 0 or 1
abbrev pub AreBits : List ℕ → Type 0
AreBits [] = Unit {0}
AreBits (b ∷ bs) = (b < 2) × AreBits bs
