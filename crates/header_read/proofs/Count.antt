-- The bits consumed are the sum over the references of type bits and coefficient bits, each within its bound; 987 at most.
-- Assumes nothing.
use Prim.Native.Nat.{ℕ, ◌-◌, ◌*◌, ◌≤◌}
use mathlib.Core.Bool.{false}
use mathlib.Core.List.{List}
use mathlib.Core.Path.{◌≡◌, sym, ◌∙◌}
use native.Mathlib.Omega.{arith}
use lib.IntN.{ℤ}
use lib.ListN.{length, get_or}
use Rattle.models.specs.Models.{priors_out}
use Rattle.grid.specs.Grid.{abs_bits}
use Rattle.header.specs.Count.{slot_count, header_count}
use Rattle.header.specs.Reading.{models_read}
use Rattle.header.specs.Writing.{slot_of, type_bits, header_bits}
use Rattle.header.proofs.Coefficient.{at-most-its-bits}
use Rattle.header.proofs.Count.{header-count}
use Rattle.header.proofs.Reference.{three-type-bits}
use Rattle.header.proofs.RoundTrip.{at-most-987-bits}
use Rattle.header_read.proofs.Rewritten.{rewritten}
use Rattle.header_read.proofs.Valid.{all-priors}

pub record Counted (header : List ℕ) (at flag : ℕ) (qs : List ℤ) : Type 0 where
  pub adds_up : (models_read header at flag qs).bits ≡ header_count (models_read header at flag qs).types (models_read header at flag qs).params flag qs
  pub type-bits : (r : ℕ) → length (type_bits (get_or (models_read header at flag qs).types r 0)) ≤ 3
  pub slot-bits : (r slot : ℕ) → slot_count flag (models_read header at flag qs).params qs (get_or (models_read header at flag qs).types r 0) (6 * r) slot
      ≤ 2 * abs_bits (get_or (models_read header at flag qs).types r 0) flag slot - 1
  pub most : (models_read header at flag qs).bits ≤ 987

pub counted : (header : List ℕ) (at flag : ℕ) (qs : List ℤ) → length qs ≡ 42 → priors_out qs ≡ false → Counted header at flag qs
counted header at flag qs long within =
    let all : length (header_bits (models_read header at flag qs).types (models_read header at flag qs).params flag qs) ≡ (models_read header at flag qs).bits =
    (rewritten header at flag qs (all-priors qs long within)).count in
    record {
      adds_up = sym all ∙ header-count (models_read header at flag qs).types (models_read header at flag qs).params flag qs;
      type-bits = λ r. three-type-bits (get_or (models_read header at flag qs).types r 0);
      slot-bits = λ r slot.
          at-most-its-bits (get_or (models_read header at flag qs).types r 0) flag slot (slot_of (models_read header at flag qs).params (6 * r) slot) (slot_of qs (6 * r) slot);
      most = omega (arith, all, at-most-987-bits flag (models_read header at flag qs).types (models_read header at flag qs).params qs);
    }
