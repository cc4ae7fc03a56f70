-- What a header can carry: the slots of a type and what the others hold, and rows 4, 7 and 8 for types, models and priors; row 14 for the bit at which it begins.
-- docs/RULES.md, 'Header', 'When a call says no'; clause 5.9.24.
-- Assumes nothing.
use Rattle.std.specs.Prelude.{ℕ, ◌+◌, ◌*◌, ◌%◌, Bool, true, false, not, List, ltb, eqb, ℤ, pos, neg_ℤ, length, get_or}
use Rattle.laws.specs.Refusal.{choose}
use Rattle.laws.specs.Below.{any_below}
use Rattle.grid.specs.Grid.{centre, quantized}
use Rattle.grid.specs.Symbols.{prior_out}
use Rattle.models.specs.Integers.{equal}

-- IDENTITY carries no slot, TRANSLATION 0 and 1, ROTZOOM 0 to 3, AFFINE all
abbrev pub carries : ℕ → ℕ → Bool
carries gm_type slot = choose (eqb gm_type 0) false (choose (eqb gm_type 1) (ltb slot 2) (choose (eqb gm_type 2) (ltb slot 4) true))

-- what a slot holds that its type doesn't carry: ROTZOOM's pair −[3] and [2], otherwise the identity value
unfoldable pub filler : ℕ → ℕ → ℤ → ℤ → ℤ
filler gm_type slot p2 p3 = choose (eqb gm_type 2) (choose (eqb slot 4) (neg_ℤ p3) p2) (pos (centre slot))

-- a slot's number is its own quantization, or what fills the slot
unfoldable pub slot_wrong : ℕ → ℕ → ℕ → ℤ → ℤ → ℤ → Bool
slot_wrong gm_type flag slot z p2 p3 =
    not (equal z (choose (carries gm_type slot) (quantized gm_type flag slot z) (filler gm_type slot p2 p3)))

-- the slot of the model whose six numbers begin at `first`
abbrev pub slot_at : ℕ → ℕ → List ℤ → ℕ → ℕ → Bool
slot_at gm_type flag params first slot =
    slot_wrong gm_type flag slot (get_or params (first + slot) (pos 0)) (get_or params (first + 2) (pos 0)) (get_or params (first + 3) (pos 0))

-- row 7 for that model
unfoldable pub model_wrong : ℕ → ℕ → List ℤ → ℕ → Bool
model_wrong gm_type flag params first = any_below (slot_at gm_type flag params first) 6

abbrev pub model_at : List ℕ → ℕ → List ℤ → ℕ → Bool
model_at types flag params k = model_wrong (get_or types k 0) flag params (6 * k)

-- row 7 for as many models as there are types
unfoldable pub models_wrong : List ℕ → ℕ → List ℤ → Bool
models_wrong types flag params = any_below (model_at types flag params) (length types)

abbrev pub prior_at : List ℤ → ℕ → Bool
prior_at prior i = prior_out (i % 6) (get_or prior i (pos 0))

-- row 8 for a list of priors, six to a reference
unfoldable pub priors_out : List ℤ → Bool
priors_out prior = any_below (prior_at prior) (length prior)

abbrev pub type_at : List ℕ → ℕ → Bool
type_at types k = ltb 3 (get_or types k 0)

-- row 4 for a list of types
unfoldable pub types_over : List ℕ → Bool
types_over types = any_below (type_at types) (length types)

-- row 14 for the bit of the first byte at which a header begins
abbrev pub start_over : ℕ → Bool
start_over start = ltb 7 start
