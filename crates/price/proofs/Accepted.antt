-- What an accepted call knows: a prior in range, and so the list of its slot's abs_bits; each abs_bits of the table is one that the code lists.
-- Assumes nothing.
use Prim.Native.Nat.{ℕ, ◌+◌}
use mathlib.Core.Bool.{Bool, true, false}
use mathlib.Core.List.{[], ◌∷◌}
use mathlib.Core.Path.{◌≡◌}
use native.Mathlib.Omega.{arith}
use lib.Dec.{eqb, ltb}
use lib.IntN.{ℤ}
use Rattle.laws.specs.Refusal.{row, judge, choose}
use Rattle.laws.specs.Parts.{listing}
use Rattle.laws.proofs.Filling.{listing-same}
use Rattle.laws.proofs.Refusal.{or-else-quiet, quiet}
use Rattle.grid.specs.Grid.{abs_bits, translational}
use Rattle.grid.specs.Symbols.{prior_out}
use Rattle.price.specs.Prices.{shortest, lengths_of}
use Rattle.price.specs.Listed.{listed}
use Rattle.price.specs.Call.{not_coded, price_refusal, prices}
use Rattle.price.specs.Inner.{Bits}
use Rattle.price.proofs.Prices.{ordinals-listed}

widths : (t h : Bool) → Bits (choose t (choose h 9 8) 12)
widths true true = record { four = omega arith; twelve = omega arith }
widths true false = record { four = omega arith; twelve = omega arith }
widths false h = record { four = omega arith; twelve = omega arith }

pub abs_bits-listed : (gm_type flag slot : ℕ) → Bits (abs_bits gm_type flag slot)
abs_bits-listed gm_type flag slot = widths (translational gm_type slot) (eqb flag 1)

module _ (gm_type flag slot : ℕ) (q : ℤ) (accepted : price_refusal gm_type flag slot q ≡ 0) where
  in-range : prior_out slot q ≡ false
  unfolding price_refusal
  in-range =
      (quiet (row 5 (not_coded gm_type slot) ∷ row 8 (prior_out slot q) ∷ []) tt
      (or-else-quiet (judge (row 4 (ltb 3 gm_type) ∷ row 4 (ltb 1 flag) ∷ [])) (judge (row 5 (not_coded gm_type slot) ∷ row 8 (prior_out slot q) ∷ [])) accepted).1).1.0

  pub prices-listed : prices gm_type flag slot q ≡ listing (λ j. listed (abs_bits gm_type flag slot) (shortest + j)) (lengths_of (abs_bits gm_type flag slot))
  prices-listed = listing-same _ _ (lengths_of (abs_bits gm_type flag slot)) (λ j l. ordinals-listed gm_type flag slot q in-range (shortest + j))
