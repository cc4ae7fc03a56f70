-- A coefficient that was read: its bits are those that were read, all of them, and few; its number is small.
-- Assumes nothing.
use Prim.Native.Nat.{ℕ, ◌^◌, ◌≤◌, ◌<◌}
use mathlib.Core.Bool.{false}
use mathlib.Core.Path.{◌≡◌, sym, subst}
use native.Mathlib.Omega.{arith}
use lib.IntN.{ℤ, pos, nat_abs, ◌-ℤ◌, ◌*ℤ◌}
use lib.ListN.{length}
use Rattle.laws.proofs.Signed.{nat_abs-add-le}
use Rattle.bits.proofs.Held.{Holds}
use Rattle.subexp.specs.Coefficient.{symbol, symbol_bits}
use Rattle.subexp.proofs.Coefficient.{symbol-within, symbol-again, symbol-all}
use Rattle.grid.specs.Grid.{abs_bits, prec_bits, centre, step}
use Rattle.grid.specs.Symbols.{symbols, symbol_of, place, prior_out}
use Rattle.grid.proofs.Bounds.{symbol-distance-small}
use Rattle.grid.proofs.Symbols.{number-symbol, row-place-below}
use Rattle.grid.proofs.Table.{table-row, centre-le}
use Rattle.header.specs.Coefficient.{coefficient, coefficient_bits}
use Rattle.header.proofs.Coefficient.{at-most-23-bits}

module _ (g : ℕ → ℕ) (bits : (i : ℕ) → g i < 2) (j gm_type flag slot : ℕ) (q : ℤ) (prior : prior_out slot q ≡ false) where
  read_below : (symbol g j (symbols (abs_bits gm_type flag slot)) (place gm_type flag slot q)).value < symbols (abs_bits gm_type flag slot)
  read_below = symbol-within g bits (symbols (abs_bits gm_type flag slot)) (omega arith) j (place gm_type flag slot q) (row-place-below gm_type flag slot q prior)

  -- the number's symbol is the one that was read
  same-symbol : symbol_of (abs_bits gm_type flag slot) (prec_bits gm_type flag slot) (centre slot) (coefficient g j gm_type flag slot q).value
      ≡ (symbol g j (symbols (abs_bits gm_type flag slot)) (place gm_type flag slot q)).value
  unfolding coefficient
  same-symbol =
      number-symbol (abs_bits gm_type flag slot) (prec_bits gm_type flag slot) (centre slot) (symbol g j (symbols (abs_bits gm_type flag slot)) (place gm_type flag slot q)).value read_below

  pub coefficient-again : Holds g j (coefficient_bits gm_type flag slot (coefficient g j gm_type flag slot q).value q)
  unfolding coefficient_bits
  coefficient-again =
      subst (λ (t : ℕ). Holds g j (symbol_bits (symbols (abs_bits gm_type flag slot)) (place gm_type flag slot q) t)) (sym same-symbol)
      (symbol-again g bits (symbols (abs_bits gm_type flag slot)) (omega arith) j (place gm_type flag slot q) (row-place-below gm_type flag slot q prior))

  pub coefficient-all : length (coefficient_bits gm_type flag slot (coefficient g j gm_type flag slot q).value q) ≡ (coefficient g j gm_type flag slot q).bits
  unfolding coefficient_bits coefficient
  coefficient-all =
      subst (λ (t : ℕ). length (symbol_bits (symbols (abs_bits gm_type flag slot)) (place gm_type flag slot q) t) ≡ (symbol g j (symbols (abs_bits gm_type flag slot)) (place gm_type flag slot q)).bits)
      (sym same-symbol)
      (symbol-all g bits (symbols (abs_bits gm_type flag slot)) (omega arith) j (place gm_type flag slot q) (row-place-below gm_type flag slot q prior))

  pub coefficient-few : (coefficient g j gm_type flag slot q).bits ≤ 23
  coefficient-few = omega (arith, coefficient-all, at-most-23-bits gm_type flag slot (coefficient g j gm_type flag slot q).value q)

  pub coefficient-small : nat_abs (coefficient g j gm_type flag slot q).value ≤ 4259840
  unfolding coefficient
  coefficient-small =
      omega (
        arith,
        nat_abs-add-le ((pos (symbol g j (symbols (abs_bits gm_type flag slot)) (place gm_type flag slot q)).value -ℤ pos (2 ^ abs_bits gm_type flag slot)) *ℤ pos (step (prec_bits gm_type flag slot)))
            (pos (centre slot)),
        symbol-distance-small (abs_bits gm_type flag slot) (prec_bits gm_type flag slot) (table-row gm_type flag slot)
            (symbol g j (symbols (abs_bits gm_type flag slot)) (place gm_type flag slot q)).value read_below,
        centre-le slot,
      )
