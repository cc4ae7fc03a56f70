-- What the functions below the public calls ask and answer; no public contract cites it.
-- Assumes nothing.
use Rattle.std.specs.Prelude.{ℕ, ◌+◌, ◌%◌, ◌≤◌, false, List, ◌≡◌, ℤ, length}
use Rattle.laws.specs.Below.{any_below}
use Rattle.models.specs.Models.{prior_at}

-- no prior before `first` is out of range
pub record NoneBefore (prior : List ℤ) (first : ℕ) : Type 0 where
  pub within : first ≤ length prior
  pub none : any_below (prior_at prior) first ≡ false

-- and those of a reference come next
pub record SixNext (prior : List ℤ) (first : ℕ) : Type 0 where
  pub before : NoneBefore prior first
  pub slot : first % 6 ≡ 0
  pub six : first + 6 ≤ length prior
