-- One coefficient of a model in the header: its bits, and what is read. docs/RULES.md, 'Header' and 'Reading by the standard'; clause 5.9.25.
-- Assumes nothing.
use Rattle.std.specs.Prelude.{ℕ, List, ℤ}
use Rattle.subexp.specs.Coefficient.{symbol, symbol_bits}
use Rattle.grid.specs.Grid.{abs_bits, prec_bits, centre}
use Rattle.grid.specs.Symbols.{symbols, symbol_of, number_of, place}

-- a number read, and how many bits were taken
pub record ReadNumber : Type 0 where
  pub value : ℤ
  pub bits : ℕ

-- the bits of the number z
unfoldable pub coefficient_bits : ℕ → ℕ → ℕ → ℤ → ℤ → List ℕ
coefficient_bits gm_type flag slot z q =
    symbol_bits (symbols (abs_bits gm_type flag slot)) (place gm_type flag slot q) (symbol_of (abs_bits gm_type flag slot) (prec_bits gm_type flag slot) (centre slot) z)

-- the number read at position j
unfoldable pub coefficient : (ℕ → ℕ) → ℕ → ℕ → ℕ → ℕ → ℤ → ReadNumber
coefficient g j gm_type flag slot q =
    record {
      value = number_of (abs_bits gm_type flag slot) (prec_bits gm_type flag slot) (centre slot) (symbol g j (symbols (abs_bits gm_type flag slot)) (place gm_type flag slot q)).value;
      bits = (symbol g j (symbols (abs_bits gm_type flag slot)) (place gm_type flag slot q)).bits;
    }
