-- What the functions that fill the planes ask and answer; no public contract cites it.
-- Assumes nothing.
use Rattle.std.specs.Prelude.{ℕ, ◌*◌, ◌≤◌, ◌<◌, List, ◌≡◌, length}
use Rattle.plane.specs.declared.Offset.{Offset}
use Rattle.plane.specs.declared.Place.{Place}
use Rattle.plane.specs.declared.Sides.{Sides}
use Rattle.plane.specs.Clamp.{displaced, offset}
use Rattle.plane.specs.Inner.{Small}
use Rattle.practice_planes.specs.Belt.{input_plane}
use Rattle.practice_planes.specs.Shift.{largest_shift}

-- sides that row 1 lets pass, and room for a plane of them
pub record PlaneRoom (sides : Sides) (n : ℕ) : Type 0 where
  pub small : Small sides.width sides.height
  pub room : sides.height * sides.width ≤ n

-- a shift in numbers that the plane takes
pub record NearShift (by : Offset) : Type 0 where
  pub y_small : by.y ≤ 48
  pub x_small : by.x ≤ 48

-- a plane of its sides, a row of it, and a shift
pub record MovedRow (p : List ℕ) (row : Place) (by : Offset) : Type 0 where
  pub small : Small row.width row.height
  pub pels : row.height * row.width ≡ length p
  pub inside : row.r < row.height
  pub near : NearShift by

-- the pel of column c in a row of the input plane
abbrev pub moved : List ℕ → Place → Offset → ℕ → ℕ
moved p row by c =
    displaced p (record { width = row.width; height = row.height; r = row.r; c = c }) (offset largest_shift by.y) (offset largest_shift by.x)

-- the input plane of a reference plane of these sides
abbrev pub moved_plane : List ℕ → Sides → Offset → List ℕ
moved_plane p sides by = input_plane p sides.width sides.height (offset largest_shift by.y) (offset largest_shift by.x)

-- a plane that is being moved: its pels, the shift, and room for the plane moved
pub record Moving (p : List ℕ) (sides : Sides) (by : Offset) (n : ℕ) : Type 0 where
  pub pels : sides.height * sides.width ≡ length p
  pub near : NearShift by
  pub room : PlaneRoom sides n

-- what an accepted call knows
pub record Ready (sides : Sides) (by : Offset) (input reference : ℕ) : Type 0 where
  pub near : NearShift by
  pub input_room : PlaneRoom sides input
  pub reference_room : PlaneRoom sides reference
