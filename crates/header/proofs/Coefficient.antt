-- A coefficient that was written is read back, takes exactly its bits, and a coefficient read is codable.
-- Assumes nothing.
use Prim.Native.Nat.{ℕ, ◌-◌, ◌*◌, ◌≤◌, ◌<◌}
use mathlib.Core.Bool.{false}
use mathlib.Core.Path.{◌≡◌, ap, ◌∙◌}
use native.Mathlib.Omega.{arith}
use lib.IntN.{ℤ}
use lib.ListN.{length}
use Rattle.bits.proofs.Held.{Holds, AreBits}
use Rattle.bits.specs.Ns.{Taken}
use Rattle.subexp.specs.Coefficient.{symbol, symbol_bits}
use Rattle.subexp.proofs.Coefficient.{symbol-read, symbol-within, symbol_bits-are-bits, four-bits-at-least, twice-abs_bits-less-one-at-most}
use Rattle.grid.specs.Grid.{abs_bits, prec_bits, centre, Codable}
use Rattle.grid.specs.Symbols.{symbols, symbol_of, number_of, place, prior_out}
use Rattle.grid.proofs.Symbols.{symbol-below, symbol-stands, number-codable, row-place-below}
use Rattle.grid.proofs.Table.{abs_bits-range}
use Rattle.header.specs.Coefficient.{coefficient, coefficient_bits}

module _ (gm_type flag slot : ℕ) where
  abs : ℕ
  abs = abs_bits gm_type flag slot

  -- by S, the place and the symbol that the code has computed
  pub coded : (z q : ℤ) (mx r t : ℕ) → mx ≡ symbols (abs_bits gm_type flag slot) → r ≡ place gm_type flag slot q
      → t ≡ symbol_of (abs_bits gm_type flag slot) (prec_bits gm_type flag slot) (centre slot) z → symbol_bits mx r t ≡ coefficient_bits gm_type flag slot z q
  unfolding coefficient_bits
  coded z q mx r t em er et = rw (em, er, et)

  pub coefficient_bits-are-bits : (z q : ℤ) → AreBits (coefficient_bits gm_type flag slot z q)
  unfolding coefficient_bits
  coefficient_bits-are-bits z q =
      symbol_bits-are-bits (symbols (abs_bits gm_type flag slot)) (place gm_type flag slot q) (symbol_of (abs_bits gm_type flag slot) (prec_bits gm_type flag slot) (centre slot) z)

  pub at-least-four-bits : (z q : ℤ) → 4 ≤ length (coefficient_bits gm_type flag slot z q)
  unfolding coefficient_bits
  at-least-four-bits z q =
      four-bits-at-least (abs_bits gm_type flag slot) (place gm_type flag slot q) (symbol_of (abs_bits gm_type flag slot) (prec_bits gm_type flag slot) (centre slot) z) (abs_bits-range gm_type flag slot).0

  pub at-most-its-bits : (z q : ℤ) → length (coefficient_bits gm_type flag slot z q) ≤ 2 * abs_bits gm_type flag slot - 1
  unfolding coefficient_bits
  at-most-its-bits z q =
      twice-abs_bits-less-one-at-most (abs_bits gm_type flag slot) (place gm_type flag slot q) (symbol_of (abs_bits gm_type flag slot) (prec_bits gm_type flag slot) (centre slot) z)
      (abs_bits-range gm_type flag slot).0

  pub at-most-23-bits : (z q : ℤ) → length (coefficient_bits gm_type flag slot z q) ≤ 23
  at-most-23-bits z q = omega (arith, at-most-its-bits z q, (abs_bits-range gm_type flag slot).1)

  module _ (g : ℕ → ℕ) (bits : (i : ℕ) → g i < 2) (j : ℕ) (q : ℤ) (prior : prior_out slot q ≡ false) where
    pub coefficient-read : (z : ℤ) → Codable (abs_bits gm_type flag slot) (prec_bits gm_type flag slot) (centre slot) z → Holds g j (coefficient_bits gm_type flag slot z q)
        → coefficient g j gm_type flag slot q ≡ record { value = z; bits = length (coefficient_bits gm_type flag slot z q) }
    unfolding coefficient coefficient_bits
    coefficient-read z k h =
        let S : ℕ = symbols (abs_bits gm_type flag slot) in
        let p : ℕ = place gm_type flag slot q in
        let t : ℕ = symbol_of (abs_bits gm_type flag slot) (prec_bits gm_type flag slot) (centre slot) z in
        let e = symbol-read g bits S (omega arith) j p (row-place-below gm_type flag slot q prior) t (symbol-below (abs_bits gm_type flag slot) (prec_bits gm_type flag slot) (centre slot) z) h in
        ap (λ (x : Taken). record { value = number_of (abs_bits gm_type flag slot) (prec_bits gm_type flag slot) (centre slot) x.value; bits = x.bits }) e
        ∙ rw (symbol-stands (abs_bits gm_type flag slot) (prec_bits gm_type flag slot) (centre slot) z k)

    pub coefficient-codable : Codable (abs_bits gm_type flag slot) (prec_bits gm_type flag slot) (centre slot) (coefficient g j gm_type flag slot q).value
    unfolding coefficient
    coefficient-codable =
        number-codable (abs_bits gm_type flag slot) (prec_bits gm_type flag slot) (centre slot)
        (symbol g j (symbols (abs_bits gm_type flag slot)) (place gm_type flag slot q)).value
        (symbol-within g bits (symbols (abs_bits gm_type flag slot)) (omega arith) j (place gm_type flag slot q) (row-place-below gm_type flag slot q prior))
