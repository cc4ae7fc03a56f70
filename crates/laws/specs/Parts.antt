-- A list that is made of parts, counted from 0, one after the other.
-- docs/RULES.md, 'Search'.
-- Assumes nothing.
use Rattle.std.specs.Prelude.{ℕ, zero, suc, List, [], ◌∷◌, ◌++◌}

-- f 0, f 1, .., f (n - 1)
abbrev pub joined : {A : Type 0} → (ℕ → List A) → ℕ → List A
joined f zero = []
joined f (suc n) = joined f n ++ f n

-- parts of one element each
abbrev pub listing : {A : Type 0} → (ℕ → A) → ℕ → List A
listing f n = joined (λ i. f i ∷ []) n
