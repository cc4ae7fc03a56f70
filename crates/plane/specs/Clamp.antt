-- Coordinates clamped to the plane, and the reference pel that a motion leads to (docs/RULES.md, 'Search').
-- Assumes nothing.
use Rattle.std.specs.Prelude.{ℕ, ◌-◌, min, List, ℤ, pos, negsuc, ◌+ℤ◌, ◌-ℤ◌}
use Rattle.plane.specs.Plane.{pel}
use Rattle.plane.specs.declared.Place.{Place}

-- a coordinate held to 0 .. n - 1
abbrev pub clamped : ℕ → ℤ → ℕ
clamped n (pos k) = min k (n - 1)
clamped n (negsuc k) = 0

-- the pel that lies (dy, dx) from a place
unfoldable pub displaced : List ℕ → Place → ℤ → ℤ → ℕ
displaced p place dy dx =
    pel p place.width (clamped place.height (pos place.r +ℤ dy)) (clamped place.width (pos place.c +ℤ dx))

-- the offset that a natural number stands for under a bias
unfoldable pub offset : ℕ → ℕ → ℤ
offset bias n = pos n -ℤ pos bias
