-- Recentring about a prior's place: clause 5.9.29's inverse_recenter, its inverse, and clause 5.9.27 with both sides of the range.
-- docs/RULES.md, 'Header' and 'Reading by the standard'.
-- Assumes nothing.
use Rattle.std.specs.Prelude.{ℕ, ◌+◌, ◌-◌, ◌*◌, ◌/◌, ◌%◌, ltb, leb, eqb}
use Rattle.laws.specs.Refusal.{choose}

abbrev pub recenter : ℕ → ℕ → ℕ
recenter r v = choose (ltb (2 * r) v) v (choose (leb r v) (2 * (v - r)) (2 * (r - v) - 1))

abbrev pub inverse_recenter : ℕ → ℕ → ℕ
inverse_recenter r k = choose (ltb (2 * r) k) k (choose (eqb (k % 2) 1) (r - (k + 1) / 2) (r + k / 2))

-- of S symbols, the code number of t about p; from the other end where p is nearer to that
unfoldable pub code_of : ℕ → ℕ → ℕ → ℕ
code_of S p t = choose (leb (2 * p) S) (recenter p t) (recenter (S - 1 - p) (S - 1 - t))

-- and the symbol of the code number k
unfoldable pub symbol_of : ℕ → ℕ → ℕ → ℕ
symbol_of S p k = choose (leb (2 * p) S) (inverse_recenter p k) (S - 1 - inverse_recenter (S - 1 - p) k)
