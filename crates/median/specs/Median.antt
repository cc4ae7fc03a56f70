-- The median of a list of binary64 numbers: the list ordered rising, and in it the number at half its length. Of an even length that is the upper of the two in the middle.
-- docs/RULES.md, 'Trimming'.
-- Assumes nothing.
use Rattle.std.specs.Prelude.{◌/◌, Bool, true, List, [], ◌∷◌, length, get_or, Float}
use Rattle.std.specs.Float.Ieee.{le}
use Rattle.std.specs.Float.Ieee.Scale.{finite}
use Rattle.laws.specs.Refusal.{choose, both}
use Rattle.laws.specs.Binary64.{nought}

-- in front of the first number that isn't below it
abbrev pub insert : Float → List Float → List Float
insert x [] = x ∷ []
insert x (y ∷ ys) = choose (le x y) (x ∷ y ∷ ys) (y ∷ insert x ys)

abbrev pub ordered : List Float → List Float
ordered [] = []
ordered (x ∷ xs) = insert x (ordered xs)

unfoldable pub median : List Float → Float
median xs = get_or (ordered xs) (length xs / 2) nought

-- none is infinite, none is a not-a-number
abbrev pub all_finite : List Float → Bool
all_finite [] = true
all_finite (x ∷ xs) = both (finite x) (all_finite xs)
