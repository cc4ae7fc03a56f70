-- A codable number as a header carries it: its symbol, which is the ordinal plus 2 ^ abs_bits; and the place of a prior among the symbols.
-- docs/RULES.md, 'Reading by the standard'; clauses 5.9.25 and 5.9.26.
-- Assumes nothing.
use Rattle.std.specs.Prelude.{ℕ, ◌+◌, ◌*◌, ◌^◌, ◌<◌, Bool, false, ◌≡◌, ltb, eqb, ℤ, pos, nat_abs, ◌+ℤ◌, ◌-ℤ◌}
use Rattle.std.specs.Int.Signed.{shr_z}
use Rattle.laws.specs.Refusal.{choose, either}
use Rattle.grid.specs.Grid.{step, number, ordinal_of, abs_bits, prec_bits, centre}

-- how many symbols a slot has: the S of docs/RULES.md
abbrev pub symbols : ℕ → ℕ
symbols abs = 2 * 2 ^ abs + 1

-- the number that a symbol stands for
abbrev pub number_of : ℕ → ℕ → ℕ → ℕ → ℤ
number_of abs prec c t = number prec c (pos t -ℤ pos (2 ^ abs))

-- the symbol of a number: its ordinal plus 2 ^ abs_bits, which is never negative
unfoldable pub symbol_of : ℕ → ℕ → ℕ → ℤ → ℕ
symbol_of abs prec c z = nat_abs (ordinal_of abs prec c z +ℤ pos (2 ^ abs))

-- what a prior of slots 2 and 5 is less
abbrev pub less_of : ℕ → ℕ → ℕ
less_of prec slot = choose (either (eqb slot 2) (eqb slot 5)) (2 ^ prec) 0

-- the prior's number divided by the step, rounded down, less 2 ^ prec_bits in slots 2 and 5, plus 2 ^ abs_bits: the p of docs/RULES.md
abbrev pub place_number : ℕ → ℕ → ℕ → ℤ → ℤ
place_number abs prec slot z = shr_z z (step prec) -ℤ pos (less_of prec slot) +ℤ pos (2 ^ abs)

-- p, which a prior in range makes no negative number
unfoldable pub place_of : ℕ → ℕ → ℕ → ℤ → ℕ
place_of abs prec slot z = nat_abs (place_number abs prec slot z)

-- p of the slot of a type
abbrev pub place : ℕ → ℕ → ℕ → ℤ → ℕ
place gm_type flag slot q = place_of (abs_bits gm_type flag slot) (prec_bits gm_type flag slot) slot q

-- how far a prior may be from the centre of its slot
abbrev pub prior_reach : ℕ → ℕ
prior_reach slot = choose (ltb slot 2) 4194304 8192

-- row 8: a prior out of range
abbrev pub prior_out : ℕ → ℤ → Bool
prior_out slot z = ltb (prior_reach slot) (nat_abs (z -ℤ pos (centre slot)))

-- a prior has its place among the symbols: p is no negative number, and below S
pub record HasPlace (abs prec slot : ℕ) (q : ℤ) : Type 0 where
  pub whole : place_number abs prec slot q ≡ pos (place_of abs prec slot q)
  pub below : place_of abs prec slot q < symbols abs

-- a prior in range for a slot of a type, under a flag
pub record PriorFor (gm_type flag slot : ℕ) (q : ℤ) : Type 0 where
  pub within : prior_out slot q ≡ false
  pub placed : HasPlace (abs_bits gm_type flag slot) (prec_bits gm_type flag slot) slot q
