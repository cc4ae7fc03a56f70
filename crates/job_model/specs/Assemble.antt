-- Seven models in rising order of reference, from six others and the one at its reference: docs/RULES.md, 'Job'.
-- Assumes nothing.
use Rattle.std.specs.Prelude.{ℕ, ◌*◌, ◌-◌, List, [], ◌∷◌, ◌++◌, take, drop}

-- a list with xs at place k
abbrev pub inserted : {A : Type 0} → ℕ → List A → List A → List A
inserted k xs others = take k others ++ (xs ++ drop k others)

-- the seven types, and the 42 numbers
abbrev pub types_with : ℕ → ℕ → List ℕ → List ℕ
types_with reference own others = inserted (reference - 1) (own ∷ []) others

abbrev pub models_with : {A : Type 0} → ℕ → List A → List A → List A
models_with reference own others = inserted (6 * (reference - 1)) own others
