-- What keeps a run in range: a codable model of any type is a prior in range for each type under either flag, so a frame's models can be the next prior.
-- docs/RULES.md, 'A run of frames'.
-- Assumes nothing.
use Rattle.std.specs.Prelude.{ℕ, ◌+◌, ◌*◌, ◌≤◌, ◌<◌, false, List, ◌≡◌, ℤ, pos, length, get_or}
use Rattle.grid.specs.Grid.{abs_bits, prec_bits, centre, Codable}
use Rattle.grid.specs.Symbols.{PriorFor}
use Rattle.models.specs.Models.{types_over, model_wrong, models_wrong, priors_out}

pub record Priors : Type 0 where
  -- a number that a type's slot can carry
  pub number : (gm_type flag slot : ℕ) (z : ℤ) → Codable (abs_bits gm_type flag slot) (prec_bits gm_type flag slot) (centre slot) z
      → (other other_flag : ℕ) → PriorFor other other_flag slot z
  -- the six of a model that row 7 lets pass, also those that its type doesn't carry
  pub model : (gm_type flag : ℕ) (ps : List ℤ) (first : ℕ) → gm_type ≤ 3 → model_wrong gm_type flag ps first ≡ false
      → (other other_flag slot : ℕ) → slot < 6 → PriorFor other other_flag slot (get_or ps (first + slot) (pos 0))
  -- the models of a header
  pub models : (types : List ℕ) (flag : ℕ) (ps : List ℤ) → length ps ≡ 6 * length types → types_over types ≡ false → models_wrong types flag ps ≡ false
      → priors_out ps ≡ false
