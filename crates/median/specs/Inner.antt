-- What the search for a median asks of its list, and what it counts.
-- Assumes nothing.
use Rattle.std.specs.Prelude.{ℕ, ◌+◌, ◌<◌, Bool, true, not, List, [], ◌∷◌, ◌≡◌, T, length, Float}
use Rattle.std.specs.Float.{nan, inf, fin, binary64}
use Rattle.std.specs.Float.Ieee.{fits, lt}
use Rattle.std.specs.Float.Ieee.Scale.{finite}
use Rattle.laws.specs.Refusal.{choose}
use Rattle.laws.specs.Stands.{Each}

-- nought or above; a not-a-number has no sign
abbrev pub unsigned : Float → Bool
unsigned nan = true
unsigned (inf s) = not s
unsigned (fin s m e) = not s

-- a finite binary64 without sign
pub record Plain (x : Float) : Type 0 where
  pub held : T (fits binary64 x)
  pub bare : unsigned x ≡ true
  pub ends : finite x ≡ true

-- a list that has a median, of such numbers
pub record Findable (xs : List Float) : Type 0 where
  pub some : 0 < length xs
  pub plain : Each Plain xs

-- how many numbers lie below a number
abbrev pub below : Float → List Float → ℕ
below key [] = 0
below key (x ∷ xs) = choose (lt x key) 1 0 + below key xs
