-- Lists of sample words: what a word is, how often one stands in a list, and two orders of the same words, none lost or added.
-- docs/RULES.md, 'Fits and score'.
-- Assumes nothing.
use Rattle.std.specs.Prelude.{ℕ, ◌+◌, ◌^◌, ◌<◌, List, [], ◌∷◌, ◌≡◌, eqb}
use Rattle.laws.specs.Refusal.{choose}
use Rattle.laws.specs.Stands.{Each}

-- any 32 bits are a sample word
abbrev pub Word : ℕ → Type 0
Word w = w < 2 ^ 32

abbrev pub Words : List ℕ → Type 0
Words ws = Each Word ws

-- how often w stands in a list
abbrev pub times : ℕ → List ℕ → ℕ
times w [] = 0
times w (v ∷ vs) = choose (eqb v w) 1 0 + times w vs

-- each word stands equally often in both
pub record SameWords (ws vs : List ℕ) : Type 0 where
  pub often : (w : ℕ) → times w ws ≡ times w vs
