-- The price list of a slot is that of its abs_bits: recentring renames the codes one to one, whatever the prior, and the ladder's codes are counted rung by rung.
-- Every ordinal has one of the lengths, so the counts sum to their number.
-- Assumes nothing.
use Prim.Native.Nat.{ℕ, ◌+◌, ◌≤◌, ◌<◌}
use mathlib.Core.Bool.{false}
use mathlib.Core.Path.{◌≡◌, ap, ◌∙◌}
use native.Mathlib.Omega.{arith}
use lib.Dec.{eqb}
use lib.IntN.{ℤ}
use lib.ListN.{length}
use Rattle.laws.specs.Loops.{sum}
use Rattle.laws.proofs.Loops.{sum_same}
use Rattle.grid.specs.Grid.{abs_bits, prec_bits, centre}
use Rattle.grid.specs.Symbols.{symbols, place, prior_out}
use Rattle.grid.proofs.Symbols.{number-symbol, row-place-below}
use Rattle.grid.proofs.Table.{abs_bits-range}
use Rattle.subexp.specs.Recenter.{code_of, symbol_of}
use Rattle.subexp.specs.Ladder.{subexp_bits}
use Rattle.subexp.specs.Coefficient.{symbol_bits}
use Rattle.subexp.proofs.Centring.{code_lt, symbol-of-code, symbol-lt, code-of-symbol}
use Rattle.subexp.proofs.Coefficient.{four-bits-at-least, twice-abs_bits-less-one-at-most}
use Rattle.header.specs.Coefficient.{coefficient_bits}
use Rattle.price.specs.Prices.{count_of, code_length, ordinals_at, shortest, lengths_of}
use Rattle.price.specs.Listed.{listed}
use Rattle.price.proofs.Counting.{Renames, count_same, count-renamed, counts-sum}
use Rattle.price.proofs.Rungs.{codes-listed}

-- recentring about any place renames the symbols
pub renames : (S p : ℕ) → p < S → Renames (code_of S p) (symbol_of S p) S
renames S p h =
    record { within = code_lt S p h; taken_back = symbol-of-code S p h; back_within = symbol-lt S p h; named = code-of-symbol S p h }

-- for every abs_bits of 3 or more and every place of a prior: so many symbols have a code of so many bits
pub symbols-listed : (abs p bits : ℕ) → 3 ≤ abs → p < symbols abs → count_of (λ t. eqb bits (length (symbol_bits (symbols abs) p t))) (symbols abs) ≡ listed abs bits
symbols-listed abs p bits three h =
    count-renamed (code_of (symbols abs) p) (symbol_of (symbols abs) p) (symbols abs) (renames (symbols abs) p h)
    (λ k. eqb bits (length (subexp_bits (symbols abs) k)))
    ∙ codes-listed abs bits three

-- and the counts of all lengths sum to 2 * 2 ^ abs_bits + 1, the number of symbols
pub symbols-all : (abs p : ℕ) → 3 ≤ abs → sum (λ j. count_of (λ t. eqb (shortest + j) (length (symbol_bits (symbols abs) p t))) (symbols abs)) (lengths_of abs) ≡ symbols abs
symbols-all abs p three =
    counts-sum (λ t. length (symbol_bits (symbols abs) p t)) shortest (lengths_of abs) (symbols abs)
    (λ t l. (four-bits-at-least abs p t three, omega (arith, twice-abs_bits-less-one-at-most abs p t three)))

-- and so many ordinals of a slot
module _ (gm_type flag slot : ℕ) (q : ℤ) (in_range : prior_out slot q ≡ false) where
  code-of-ordinal : (t : ℕ) → t < symbols (abs_bits gm_type flag slot)
      → code_length gm_type flag slot q t ≡ length (symbol_bits (symbols (abs_bits gm_type flag slot)) (place gm_type flag slot q) t)
  unfolding coefficient_bits
  code-of-ordinal t l =
      ap (λ (s : ℕ). length (symbol_bits (symbols (abs_bits gm_type flag slot)) (place gm_type flag slot q) s))
      (number-symbol (abs_bits gm_type flag slot) (prec_bits gm_type flag slot) (centre slot) t l)

  pub ordinals-listed : (bits : ℕ) → ordinals_at gm_type flag slot q bits ≡ listed (abs_bits gm_type flag slot) bits
  unfolding ordinals_at
  ordinals-listed bits =
      count_same _ _ (symbols (abs_bits gm_type flag slot)) (λ t l. ap (eqb bits) (code-of-ordinal t l))
      ∙ symbols-listed (abs_bits gm_type flag slot) (place gm_type flag slot q) bits (abs_bits-range gm_type flag slot).0 (row-place-below gm_type flag slot q in_range)

  -- the counts of all lengths sum to the number of ordinals
  pub ordinals-all : sum (λ j. ordinals_at gm_type flag slot q (shortest + j)) (lengths_of (abs_bits gm_type flag slot)) ≡ symbols (abs_bits gm_type flag slot)
  unfolding ordinals_at
  ordinals-all =
      let abs : ℕ = abs_bits gm_type flag slot in
      sum_same _ _ (lengths_of abs) (λ j l. count_same _ _ (symbols abs) (λ t k. ap (eqb (shortest + j)) (code-of-ordinal t k)))
      ∙ symbols-all abs (place gm_type flag slot q) (abs_bits-range gm_type flag slot).0
