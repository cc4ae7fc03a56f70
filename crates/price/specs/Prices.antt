-- What the coefficients of a slot cost (docs/RULES.md, 'Prices'): of a slot's ordinals, how many have a written code of so many bits.
-- Assumes nothing.
use Rattle.std.specs.Prelude.{ℕ, ◌-◌, ◌*◌, Bool, eqb, ℤ, length}
use Rattle.laws.specs.Loops.{sum}
use Rattle.laws.specs.Refusal.{choose}
use Rattle.grid.specs.Grid.{abs_bits, prec_bits, centre}
use Rattle.grid.specs.Symbols.{symbols, number_of}
use Rattle.header.specs.Coefficient.{coefficient_bits}

-- how many of 0, 1, .., n - 1 pass a test
abbrev pub count_of : (ℕ → Bool) → ℕ → ℕ
count_of test n = sum (λ i. choose (test i) 1 0) n

-- the shortest code, and how many lengths there are: from it to 2 * abs_bits - 1
abbrev pub shortest : ℕ
shortest = 4

abbrev pub lengths_of : ℕ → ℕ
lengths_of abs = 2 * abs - shortest

module _ (gm_type flag slot : ℕ) (q : ℤ) where
  -- the code of the t-th ordinal, counted from the least, about the prior q
  abbrev pub code_length : ℕ → ℕ
  code_length t = length (coefficient_bits gm_type flag slot (number_of (abs_bits gm_type flag slot) (prec_bits gm_type flag slot) (centre slot) t) q)

  -- how many ordinals cost so many bits
  unfoldable pub ordinals_at : ℕ → ℕ
  ordinals_at bits = count_of (λ t. eqb bits (code_length t)) (symbols (abs_bits gm_type flag slot))
