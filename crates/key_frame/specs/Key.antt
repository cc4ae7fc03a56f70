-- What a key frame holds and when it isn't written: docs/RULES.md, 'Key frames'; clause 5.9.24, where FrameIsIntra holds.
-- Assumes nothing.
use Rattle.std.specs.Prelude.{ℕ, zero, suc, Bool, not, List, [], ◌∷◌, ltb, eqb, ℤ, pos, length, get_or}
use Rattle.laws.specs.Below.{any_below}
use Rattle.laws.specs.Refusal.{Row, row, either, judge, or_else}
use Rattle.models.specs.Models.{types_over, models_wrong, start_over}

-- n models that aren't coded
abbrev pub identities : ℕ → List ℤ
identities zero = []
identities (suc n) = pos 0 ∷ pos 0 ∷ pos 65536 ∷ pos 0 ∷ pos 0 ∷ pos 65536 ∷ identities n

-- of types and of their numbers: a key frame's prior isn't looked at
abbrev pub key_lengths_wrong : ℕ → ℕ → Bool
key_lengths_wrong types ps = either (not (eqb types 7)) (not (eqb ps 42))

abbrev pub type_at : List ℕ → ℕ → Bool
type_at types k = not (eqb (get_or types k 0) 0)

-- a type that isn't IDENTITY
unfoldable pub some_type : List ℕ → Bool
some_type types = any_below (type_at types) (length types)

abbrev pub not_identity : List ℕ → ℕ → List ℤ → Bool
not_identity types flag ps = either (some_type types) (models_wrong types flag ps)

abbrev pub key_code_rows : List ℕ → List ℤ → ℕ → List Row
key_code_rows types ps flag = row 2 (key_lengths_wrong (length types) (length ps)) ∷ row 4 (types_over types) ∷ row 4 (ltb 1 flag) ∷ []

abbrev pub key_model_rows : ℕ → List ℕ → List ℤ → ℕ → List Row
key_model_rows start types ps flag = row 14 (start_over start) ∷ row 7 (not_identity types flag ps) ∷ []

unfoldable pub key_refusal : ℕ → List ℕ → List ℤ → ℕ → ℕ
key_refusal start types ps flag = or_else (judge (key_code_rows types ps flag)) (judge (key_model_rows start types ps flag))
