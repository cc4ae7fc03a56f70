-- Two lists of the same numbers, in whatever order: each stands in both equally often. Numbers are told apart by their bit patterns, so +0 from −0 too.
-- docs/RULES.md, 'Trimming'.
-- Assumes nothing.
use Rattle.std.specs.Prelude.{ℕ, ◌+◌, List, [], ◌∷◌, ◌≡◌, eqb, Float}
use Rattle.std.specs.Float.{binary64}
use Rattle.std.specs.Float.Ieee.{to_bits}
use Rattle.laws.specs.Refusal.{choose}

-- how often the number of the pattern b stands in a list
abbrev pub times : ℕ → List Float → ℕ
times b [] = 0
times b (x ∷ xs) = choose (eqb (to_bits binary64 x) b) 1 0 + times b xs

pub record SameNumbers (xs ys : List Float) : Type 0 where
  pub often : (b : ℕ) → times b xs ≡ times b ys
