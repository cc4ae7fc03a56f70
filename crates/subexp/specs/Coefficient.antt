-- One coefficient, a symbol of S counted from 0, about its prior's place: clauses 5.9.26 to 5.9.28.
-- docs/RULES.md, 'Header' and 'Reading by the standard'.
-- Assumes nothing.
use Rattle.std.specs.Prelude.{ℕ, List}
use Rattle.bits.specs.Ns.{Taken}
use Rattle.subexp.specs.Recenter.{code_of, symbol_of}
use Rattle.subexp.specs.Ladder.{subexp, subexp_bits}

-- the bits of the symbol t, about the place p
abbrev pub symbol_bits : ℕ → ℕ → ℕ → List ℕ
symbol_bits S p t = subexp_bits S (code_of S p t)

-- what is read at position j
abbrev pub symbol : (ℕ → ℕ) → ℕ → ℕ → ℕ → Taken
symbol g j S p = record { value = symbol_of S p (subexp g j S).value; bits = (subexp g j S).bits }
