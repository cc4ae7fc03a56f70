-- The shear check of a model: when it says no (docs/RULES.md, rows 2, 4 and 7), and what it answers.
-- The precision flag plays no part: no slot of ROTZOOM and AFFINE has a grid that depends on it.
-- docs/RULES.md, 'Shear'.
-- Assumes nothing.
use Rattle.std.specs.Prelude.{ℕ, Bool, not, List, [], ◌∷◌, ltb, eqb, ℤ, pos, length, get_or}
use Rattle.laws.specs.Refusal.{Row, row, judge, either}
use Rattle.laws.specs.Call.{answered}
use Rattle.models.specs.Models.{model_wrong}
use Rattle.warp.specs.Shear.{alpha0, beta0, gamma0, delta0, reduced, warp_valid}
use Rattle.shear.specs.declared.Shear.{Shear}

-- the four numbers with the verdict on them
abbrev pub judged : ℤ → ℤ → ℤ → ℤ → Shear
judged alpha beta gamma delta =
    record { refusal = 0; valid = warp_valid alpha beta gamma delta; alpha = alpha; beta = beta; gamma = gamma; delta = delta }

-- of a codable linear part
abbrev pub shear_of : ℤ → ℤ → ℤ → ℤ → Shear
shear_of p2 p3 p4 p5 =
    judged (reduced (alpha0 p2)) (reduced (beta0 p3)) (reduced (gamma0 p2 p4)) (reduced (delta0 p2 p3 p4 p5))

-- row 7: neither ROTZOOM nor AFFINE, or off the grid, or ROTZOOM's pair wrong
abbrev pub not_warped : ℕ → List ℤ → Bool
not_warped gm_type params = either (ltb gm_type 2) (model_wrong gm_type 0 params 0)

abbrev pub rows : ℕ → List ℤ → List Row
rows gm_type params =
    row 2 (not (eqb (length params) 6)) ∷ row 4 (ltb 3 gm_type) ∷ row 7 (not_warped gm_type params) ∷ []

unfoldable pub shear_refusal : ℕ → List ℤ → ℕ
shear_refusal gm_type params = judge (rows gm_type params)

abbrev pub rejected : ℕ → Shear
rejected n = record { refusal = n; valid = 0; alpha = pos 0; beta = pos 0; gamma = pos 0; delta = pos 0 }

unfoldable pub shear : ℕ → List ℤ → Shear
shear gm_type params =
    answered rejected (shear_refusal gm_type params)
    (shear_of (get_or params 2 (pos 0)) (get_or params 3 (pos 0)) (get_or params 4 (pos 0)) (get_or params 5 (pos 0)))
