-- What the functions below the public calls ask and answer; no public contract cites it.
-- Assumes nothing.
use Rattle.std.specs.Prelude.{ℕ, ◌+◌, ◌-◌, ◌/◌, ◌^◌, ◌≤◌, ◌<◌, true, false, ◌≡◌, List, ℤ, length, get_or, set, replicate}
use Rattle.grid.specs.Symbols.{prior_out}
use Rattle.models.specs.Models.{carries, model_wrong, models_wrong, priors_out}
use Rattle.header.specs.Writing.{slot_of}

-- the six priors from `first` on are in range
pub record ValidPrior (qs : List ℤ) (first : ℕ) : Type 0 where
  pub within : (slot : ℕ) → slot < 6 → prior_out slot (slot_of qs first slot) ≡ false

-- a model and its priors lie in their lists, and the priors are in range
pub record ModelReady (ps qs : List ℤ) (first : ℕ) : Type 0 where
  pub numbers : first + 6 ≤ length ps
  pub places : first + 6 ≤ length qs
  pub priors : ValidPrior qs first

-- a slot that the type carries
pub record Carried (gm_type slot : ℕ) : Type 0 where
  pub known : slot < 6
  pub is : carries gm_type slot ≡ true

-- and the model is right: its carried numbers are codable
pub record ModelCoded (gm_type flag : ℕ) (ps qs : List ℤ) (first : ℕ) : Type 0 where
  pub ready : ModelReady ps qs first
  pub right : model_wrong gm_type flag ps first ≡ false

-- seven types and their models, and as many priors
pub record Seven (types : List ℕ) (ps qs : List ℤ) : Type 0 where
  pub seven : length types ≡ 7
  pub numbers : length ps ≡ 42
  pub places : length qs ≡ 42

-- and the priors in range
pub record HeaderReady (types : List ℕ) (ps qs : List ℤ) : Type 0 where
  pub all : Seven types ps qs
  pub within : priors_out qs ≡ false

-- and the models right
pub record HeaderCoded (types : List ℕ) (ps : List ℤ) (flag : ℕ) (qs : List ℤ) : Type 0 where
  pub ready : HeaderReady types ps qs
  pub right : models_wrong types flag ps ≡ false

-- n identities from reference r on
pub record Identities (types : List ℕ) (r n : ℕ) : Type 0 where
  pub within : r + n ≤ length types
  pub each : (i : ℕ) → i < n → get_or types (r + i) 0 ≡ 0

-- a page of zeros, but for its first byte
abbrev pub page_of : ℕ → List ℕ
page_of first = set (replicate 125 0) 0 first

-- a byte whose bits before `start` are those of the header's first
pub record Begins (start before : ℕ) (header : List ℕ) : Type 0 where
  pub low : start < 8
  pub byte : before < 2 ^ 8
  pub front : before / 2 ^ (8 - start) ≡ get_or header 0 0 / 2 ^ (8 - start)
