-- The price lists of abs_bits 3, 4, 5 and of the table's 8, 9 and 12, and the refusals of docs/RULES.md, 'Prices', worked out.
-- Assumes nothing.
use Prim.Native.Nat.{ℕ, ◌+◌}
use mathlib.Core.List.{List, [], ◌∷◌}
use mathlib.Core.Path.{◌≡◌, refl}
use lib.IntN.{pos}
use Rattle.laws.specs.Parts.{listing}
use Rattle.price.specs.Prices.{shortest, lengths_of}
use Rattle.price.specs.Listed.{listed}
use Rattle.price.specs.Call.{price_refusal}

abbrev pub list : ℕ → List ℕ
list abs = listing (λ j. listed abs (shortest + j)) (lengths_of abs)

-- what the whole list is
pub record Lists : Type 0 where
  pub three : list 3 ≡ 15 ∷ 2 ∷ []
  pub four : list 4 ≡ 8 ∷ 8 ∷ 15 ∷ 2 ∷ []
  pub five : list 5 ≡ 8 ∷ 8 ∷ 0 ∷ 16 ∷ 31 ∷ 2 ∷ []
  pub eight : list 8 ≡ 8 ∷ 8 ∷ 0 ∷ 16 ∷ 0 ∷ 32 ∷ 0 ∷ 64 ∷ 0 ∷ 128 ∷ 255 ∷ 2 ∷ []
  pub nine : list 9 ≡ 8 ∷ 8 ∷ 0 ∷ 16 ∷ 0 ∷ 32 ∷ 0 ∷ 64 ∷ 0 ∷ 128 ∷ 0 ∷ 256 ∷ 511 ∷ 2 ∷ []
  pub twelve : list 12 ≡ 8 ∷ 8 ∷ 0 ∷ 16 ∷ 0 ∷ 32 ∷ 0 ∷ 64 ∷ 0 ∷ 128 ∷ 0 ∷ 256 ∷ 0 ∷ 512 ∷ 0 ∷ 1024 ∷ 0 ∷ 2048 ∷ 4095 ∷ 2 ∷ []

pub lists : Lists
unfolding listed
lists = record { three = refl; four = refl; five = refl; eight = refl; nine = refl; twelve = refl }

-- type, flag, slot and prior
pub record Refusals : Type 0 where
  pub prior-out : price_refusal 2 1 3 (pos 8193) ≡ 8
  pub slot_not_coded : price_refusal 2 1 4 (pos 99999) ≡ 5
  pub linear_of_translation : price_refusal 1 1 2 (pos 65536) ≡ 5
  pub identity : price_refusal 0 0 0 (pos 0) ≡ 5
  pub flag_first : price_refusal 3 2 6 (pos 0) ≡ 4
  pub no_such_slot : price_refusal 3 1 6 (pos 0) ≡ 5
  pub below_the_range : price_refusal 3 0 5 (pos 57343) ≡ 8

pub refusals : Refusals
unfolding price_refusal
refusals =
    record {
      prior-out = refl;
      slot_not_coded = refl;
      linear_of_translation = refl;
      identity = refl;
      flag_first = refl;
      no_such_slot = refl;
      below_the_range = refl;
    }
