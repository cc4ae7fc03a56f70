-- A coefficient that was written is read back and takes exactly its bits; one that is read is a symbol, and its bits are those that were read.
-- Assumes nothing.
use Prim.Native.Nat.{ℕ, ◌+◌, ◌-◌, ◌*◌, ◌^◌, ◌≤◌, ◌<◌}
use mathlib.Core.Path.{◌≡◌, ap, ◌∙◌}
use native.Mathlib.Omega.{arith}
use lib.ListN.{length}
use Rattle.bits.proofs.Held.{Holds, AreBits}
use Rattle.bits.specs.Ns.{Taken}
use Rattle.subexp.specs.Coefficient.{symbol, symbol_bits}
use Rattle.subexp.specs.Ladder.{subexp, subexp_bits}
use Rattle.subexp.specs.Recenter.{code_of, symbol_of}
use Rattle.subexp.proofs.Centring.{code_lt, symbol-of-code, symbol-lt, code-of-symbol}
use Rattle.subexp.proofs.Ladder.{climb-read, climbed, climb_bits-are-bits}
use Rattle.subexp.proofs.Lengths.{subexp-lengths}

module _ (g : ℕ → ℕ) (bits : (i : ℕ) → g i < 2) (S : ℕ) (some : 0 < S) (j : ℕ) where
  pub subexp-read : (v : ℕ) → v < S → Holds g j (subexp_bits S v) → subexp g j S ≡ record { value = v; bits = length (subexp_bits S v) }
  unfolding subexp subexp_bits
  subexp-read v within h = climb-read g bits S S 0 v j (omega arith) some (omega arith) within h

  pub record Again : Type 0 where
    pub within : (subexp g j S).value < S
    pub again : Holds g j (subexp_bits S (subexp g j S).value)
    pub all : length (subexp_bits S (subexp g j S).value) ≡ (subexp g j S).bits

  pub subexp-again : Again
  unfolding subexp subexp_bits
  subexp-again =
      let r = climbed g bits S S 0 j (omega arith) some in
      record { within = r.within; again = r.again; all = r.all }

  module _ (p : ℕ) (place : p < S) where
    pub symbol-read : (t : ℕ) → t < S → Holds g j (symbol_bits S p t) → symbol g j S p ≡ record { value = t; bits = length (symbol_bits S p t) }
    symbol-read t within h =
        let e = subexp-read (code_of S p t) (code_lt S p place t within) h in
        ap (λ (x : Taken). record { value = symbol_of S p x.value; bits = x.bits }) e ∙ rw (symbol-of-code S p place t within)

    pub symbol-within : (symbol g j S p).value < S
    symbol-within = symbol-lt S p place (subexp g j S).value subexp-again.within

    pub symbol-again : Holds g j (symbol_bits S p (symbol g j S p).value)
    symbol-again = rw (code-of-symbol S p place (subexp g j S).value subexp-again.within) subexp-again.again

    pub symbol-all : length (symbol_bits S p (symbol g j S p).value) ≡ (symbol g j S p).bits
    symbol-all = rw (code-of-symbol S p place (subexp g j S).value subexp-again.within) subexp-again.all

pub symbol_bits-are-bits : (S p t : ℕ) → AreBits (symbol_bits S p t)
unfolding subexp_bits
symbol_bits-are-bits S p t = climb_bits-are-bits S S (code_of S p t) 0

-- the lengths of a coefficient's bits, for the rules' S
module _ (abs p t : ℕ) (three : 3 ≤ abs) where
  abbrev count : ℕ
  count = 2 * 2 ^ abs + 1

  pub four-bits-at-least : 4 ≤ length (symbol_bits count p t)
  four-bits-at-least = (subexp-lengths abs three (code_of count p t)).0

  pub twice-abs_bits-less-one-at-most : length (symbol_bits count p t) ≤ 2 * abs - 1
  twice-abs_bits-less-one-at-most = (subexp-lengths abs three (code_of count p t)).1
