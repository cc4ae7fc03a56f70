-- The price list of a coefficient: when it says no (docs/RULES.md, rows 4, 5 and 8), and what it answers.
-- docs/RULES.md, 'Prices'.
-- Assumes nothing.
use Rattle.std.specs.Prelude.{ℕ, ◌+◌, Bool, not, List, [], ◌∷◌, replicate, ltb, ℤ}
use Rattle.laws.specs.Refusal.{row, judge, or_else, either}
use Rattle.laws.specs.Call.{answered}
use Rattle.laws.specs.Buffer.{onto}
use Rattle.laws.specs.Parts.{listing}
use Rattle.grid.specs.Grid.{abs_bits}
use Rattle.grid.specs.Symbols.{prior_out}
use Rattle.models.specs.Models.{carries}
use Rattle.price.specs.Prices.{shortest, lengths_of, ordinals_at}
use Rattle.price.specs.declared.PriceList.{PriceList}

-- the longest list: abs_bits of 12
abbrev pub most_lengths : ℕ
most_lengths = 20

-- row 5: a slot that the type doesn't code
abbrev pub not_coded : ℕ → ℕ → Bool
not_coded gm_type slot = either (ltb 5 slot) (not (carries gm_type slot))

unfoldable pub price_refusal : ℕ → ℕ → ℕ → ℤ → ℕ
price_refusal gm_type flag slot q =
    or_else (judge (row 4 (ltb 3 gm_type) ∷ row 4 (ltb 1 flag) ∷ []))
    (judge (row 5 (not_coded gm_type slot) ∷ row 8 (prior_out slot q) ∷ []))

-- zeros where nothing is listed
abbrev pub no_prices : List ℕ
no_prices = replicate most_lengths 0

abbrev pub rejected : ℕ → PriceList
rejected n = record { refusal = n; lengths = 0; ordinals = no_prices }

-- the ordinals of 4 bits, of 5, and so on
abbrev pub prices : ℕ → ℕ → ℕ → ℤ → List ℕ
prices gm_type flag slot q = listing (λ j. ordinals_at gm_type flag slot q (shortest + j)) (lengths_of (abs_bits gm_type flag slot))

unfoldable pub price_list : ℕ → ℕ → ℕ → ℤ → PriceList
price_list gm_type flag slot q =
    answered rejected (price_refusal gm_type flag slot q)
    (record { refusal = 0; lengths = lengths_of (abs_bits gm_type flag slot); ordinals = onto (prices gm_type flag slot q) no_prices })
