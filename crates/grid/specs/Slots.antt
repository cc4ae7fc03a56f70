-- The slots that a type carries, in the order of reading: docs/RULES.md, 'Header'; clause 5.9.24.
-- Assumes nothing.
use Rattle.std.specs.Prelude.{ℕ, List, [], ◌∷◌, eqb}
use Rattle.laws.specs.Refusal.{choose}

-- 2, 3, for AFFINE 4, 5, then 0, 1; TRANSLATION 0, 1 alone, IDENTITY none
abbrev pub slots_of : ℕ → List ℕ
slots_of gm_type =
    choose (eqb gm_type 0) []
    (choose (eqb gm_type 1) (0 ∷ 1 ∷ []) (choose (eqb gm_type 2) (2 ∷ 3 ∷ 0 ∷ 1 ∷ []) (2 ∷ 3 ∷ 4 ∷ 5 ∷ 0 ∷ 1 ∷ [])))
