-- What a loop computes, over any state: by index, by list, and as a sum.
-- docs/RULES.md, 'Search'.
-- Assumes nothing.
use Rattle.std.specs.Prelude.{ℕ, zero, suc, ◌+◌, ◌-◌, List, [], ◌∷◌}

-- k turns of s = f i s, the first at i
abbrev pub turns : {S : Type 0} → (ℕ → S → S) → ℕ → ℕ → S → S
turns f zero i s = s
turns f (suc k) i s = turns f k (suc i) (f i s)

-- the turns i, i + 1, .., n - 1
unfoldable pub run : {S : Type 0} → (ℕ → S → S) → ℕ → ℕ → S → S
run f i n s = turns f (n - i) i s

-- the elements of a list, first to last
abbrev pub fold : {A S : Type 0} → (S → A → S) → List A → S → S
fold f [] s = s
fold f (x ∷ xs) s = fold f xs (f s x)

-- f 0 + f 1 + .. + f (n - 1)
abbrev pub sum : (ℕ → ℕ) → ℕ → ℕ
sum f zero = 0
sum f (suc n) = sum f n + f n
