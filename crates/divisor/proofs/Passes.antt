-- A test that every entry of a list passes at its place: it is computed once, and holds at each entry.
-- Assumes nothing.
use Prim.Native.Nat.{ℕ, zero, suc, ◌+◌, ◌<◌}
use mathlib.Core.Bool.{Bool, true}
use mathlib.Core.List.{List, [], ◌∷◌}
use mathlib.Core.Path.{◌≡◌, subst}
use native.Mathlib.Nat.{le_of_suc-le-suc, not-suc-le-zero}
use native.Mathlib.Omega.{arith}
use lib.Dec.{T}
use lib.ListN.{length, get_or}
use Rattle.laws.specs.Refusal.{both}
use Rattle.laws.proofs.Refusal.{both_left, both_right}

-- the entries, the first of which stands at place i
abbrev pub passes : (ℕ → ℕ → Bool) → ℕ → List ℕ → Bool
passes test i [] = true
passes test i (x ∷ xs) = both (test i x) (passes test (suc i) xs)

pub entry-passes : (test : ℕ → ℕ → Bool) (xs : List ℕ) (i : ℕ) → T (passes test i xs) → (k j : ℕ) → k < length xs → i + k ≡ j → T (test j (get_or xs k 0))
entry-passes test [] i t k j h e = absurd (not-suc-le-zero h)
entry-passes test (x ∷ xs) i t zero j h e =
    subst (λ (m : ℕ). T (test m x)) (omega arith) (both_left (test i x) (passes test (suc i) xs) t)
entry-passes test (x ∷ xs) i t (suc k) j h e =
    entry-passes test xs (suc i) (both_right (test i x) (passes test (suc i) xs) t) k j (le_of_suc-le-suc h) (omega arith)
