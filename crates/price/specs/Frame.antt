-- The price of a frame of either kind: how many bits its header takes, without writing it; and when it says no (docs/RULES.md, 'Prices', rows 2, 4, 7 and 8).
-- They are the writer's rows without the start and the room; a key frame's prior isn't looked at, and its price is 0.
-- Assumes nothing.
use Rattle.std.specs.Prelude.{ℕ, Bool, true, false, List, [], ◌∷◌, ℤ}
use Rattle.laws.specs.Refusal.{Row, row, judge, or_else}
use Rattle.laws.specs.Call.{answered}
use Rattle.models.specs.Models.{models_wrong, priors_out}
use Rattle.header.specs.Writing.{code_rows}
use Rattle.frame_header.specs.Frame.{frame_count}
use Rattle.key_frame.specs.Key.{key_code_rows, not_identity}
use Rattle.price.specs.declared.Price.{Price}

-- rows 2 and 4
abbrev pub priced_code_rows : Bool → List ℕ → List ℤ → ℕ → List ℤ → List Row
priced_code_rows true types ps flag qs = key_code_rows types ps flag
priced_code_rows false types ps flag qs = code_rows types ps flag qs

-- rows 7 and 8
abbrev pub priced_model_rows : Bool → List ℕ → List ℤ → ℕ → List ℤ → List Row
priced_model_rows true types ps flag qs = row 7 (not_identity types flag ps) ∷ []
priced_model_rows false types ps flag qs = row 7 (models_wrong types flag ps) ∷ row 8 (priors_out qs) ∷ []

unfoldable pub frame_price_refusal : Bool → List ℕ → List ℤ → ℕ → List ℤ → ℕ
frame_price_refusal intra types ps flag qs =
    or_else (judge (priced_code_rows intra types ps flag qs)) (judge (priced_model_rows intra types ps flag qs))

abbrev pub not_priced : ℕ → Price
not_priced n = record { refusal = n; bits = 0 }

unfoldable pub frame_price : Bool → List ℕ → List ℤ → ℕ → List ℤ → Price
frame_price intra types ps flag qs =
    answered not_priced (frame_price_refusal intra types ps flag qs) (record { refusal = 0; bits = frame_count intra types ps flag qs })
