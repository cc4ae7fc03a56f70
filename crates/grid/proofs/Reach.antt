-- A codable number is a prior in range: for any abs_bits and prec_bits it has its place among the symbols of all that reach as far, and every row of the table does.
-- Assumes nothing.
use Prim.Native.Nat.{ℕ, ◌+◌, ◌*◌, ◌-◌, ◌^◌, ◌≤◌}
use mathlib.Core.Bool.{Bool, true, false}
use mathlib.Core.Path.{◌≡◌, refl}
use native.Mathlib.Nat.{le_trans}
use native.Mathlib.Omega.{arith}
use borrow.Author.Tests.{le-ltb}
use lib.Dec.{ltb, eqb}
use lib.IntN.{ℤ, pos, nat_abs, ◌-ℤ◌}
use lib.Pow.{pow-add, pow_mono}
use Rattle.laws.specs.Refusal.{choose}
use Rattle.grid.specs.Grid.{step, abs_bits, prec_bits, centre, Codable}
use Rattle.grid.specs.Symbols.{prior_reach, prior_out, HasPlace, PriorFor}
use Rattle.grid.proofs.OffGrid.{steps-of-codable}
use Rattle.grid.proofs.Symbols.{less-steps, place-natural, place-below, row-place, row-place-below}
use Rattle.grid.proofs.Table.{table-row}

-- ---- for any abs_bits and prec_bits

pub codable-near : (abs prec c : ℕ) (z : ℤ) → Codable abs prec c z → nat_abs (z -ℤ pos c) ≤ 2 ^ (abs + (16 - prec))
codable-near abs prec c z g = rw (pow-add 2 abs (16 - prec)) (steps-of-codable abs prec c z g).0

-- among the symbols of others that reach as far
module _ (abs prec slot : ℕ) (z : ℤ) (g : Codable abs prec (centre slot) z) (other other_prec : ℕ) (fraction : other_prec ≤ 16)
    (far : abs + (16 - prec) ≤ other + (16 - other_prec)) where
  in_reach : nat_abs (z -ℤ pos (centre slot)) ≤ 2 ^ other * step other_prec
  in_reach = rw (← pow-add 2 other (16 - other_prec)) (le_trans (codable-near abs prec (centre slot) z g) (pow_mono far))

  pub codable-placed : HasPlace other other_prec slot z
  codable-placed =
      let less = less-steps other_prec slot fraction in
      record { whole = place-natural other other_prec slot z less in_reach; below = place-below other other_prec slot z less in_reach }

-- ---- at the rows of the table

sums : (s t h : Bool) → choose (choose s t false) (choose h 9 8) 12 + (16 - choose (choose s t false) (choose h 3 2) (choose s 6 15)) ≡ choose s 22 13
sums true true true = refl
sums true true false = refl
sums true false h = refl
sums false t h = refl

-- whatever the type and the flag
pub row-sum : (gm_type flag slot : ℕ) → abs_bits gm_type flag slot + (16 - prec_bits gm_type flag slot) ≡ choose (ltb slot 2) 22 13
row-sum gm_type flag slot = sums (ltb slot 2) (eqb gm_type 1) (eqb flag 1)

power : (s : Bool) → 2 ^ choose s 22 13 ≡ choose s 4194304 8192
power true = refl
power false = refl

-- of one type and flag, for each type under each flag
module _ (gm_type flag slot : ℕ) (z : ℤ) (g : Codable (abs_bits gm_type flag slot) (prec_bits gm_type flag slot) (centre slot) z) where
  pub codable-prior : prior_out slot z ≡ false
  codable-prior =
      le-ltb (prior_reach slot) (nat_abs (z -ℤ pos (centre slot)))
      (rw (row-sum gm_type flag slot, power (ltb slot 2)) at (codable-near (abs_bits gm_type flag slot) (prec_bits gm_type flag slot) (centre slot) z g))

  pub codable-prior-for : (other other_flag : ℕ) → PriorFor other other_flag slot z
  codable-prior-for other other_flag =
      record {
        within = codable-prior;
        placed = codable-placed (abs_bits gm_type flag slot) (prec_bits gm_type flag slot) slot z g (abs_bits other other_flag slot) (prec_bits other other_flag slot)
            (table-row other other_flag slot).fraction (omega (arith, row-sum gm_type flag slot, row-sum other other_flag slot));
      }

-- a prior in range, whether it is codable or not
pub prior-for : (gm_type flag slot : ℕ) (q : ℤ) → prior_out slot q ≡ false → PriorFor gm_type flag slot q
prior-for gm_type flag slot q h = record { within = h; placed = record { whole = row-place gm_type flag slot q h; below = row-place-below gm_type flag slot q h } }
