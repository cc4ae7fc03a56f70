-- Two rows of a plane, as parts of it, halve to a row of its half plane; and how many values that plane has.
-- Assumes nothing.
use Prim.Native.Nat.{ℕ, ◌+◌, ◌*◌, ◌/◌, ◌-◌, ◌≤◌, ◌<◌}
use mathlib.Core.List.{List}
use mathlib.Core.Path.{◌≡◌}
use native.Mathlib.Nat.{mul-le-mul_right}
use native.Mathlib.Omega.{arith}
use lib.ListN.{length, take, drop, get_or}
use lib.Seq.{get_or-take, get_or-drop}
use Rattle.laws.specs.Parts.{listing}
use Rattle.laws.proofs.Filling.{listing-same}
use Rattle.plane.specs.Plane.{half_pel, half_plane}
use Rattle.plane.specs.Inner.{half_of_rows}
use Rattle.plane.proofs.Listing.{length-row_by_row}

-- the element at i of the w elements from the a-th on
pub part_at : (p : List ℕ) (a w i : ℕ) → i < w → get_or (take (a + w - a) (drop a p)) i 0 ≡ get_or p (a + i) 0
part_at p a w i h = let g : i < a + w - a = omega arith in rw (get_or-take, get_or-drop)

pub half-row-is : (p : List ℕ) (w r n : ℕ) → n ≡ w / 2 →
    listing (half_of_rows (take (2 * r * w + w - 2 * r * w) (drop (2 * r * w) p)) (take (2 * r * w + w + w - (2 * r * w + w)) (drop (2 * r * w + w) p))) n
    ≡ listing (half_pel p w r) (w / 2)
half-row-is p w r n e =
    rw e
    (listing-same _ (half_pel p w r) (w / 2)
    (λ c h.
    let b : 2 * r * w + w ≡ (2 * r + 1) * w = omega arith in
    let l : 2 * c < w = omega arith in
    let m : 2 * c + 1 < w = omega arith in
    rw (part_at p (2 * r * w) w (2 * c), part_at p (2 * r * w) w (2 * c + 1), part_at p (2 * r * w + w) w (2 * c), part_at p (2 * r * w + w) w (2 * c + 1), b)))

-- two rows for each row r of the half plane
pub rows_inside : (w h r n : ℕ) → h * w ≡ n → r < h / 2 → 2 * r * w + w + w ≤ n
rows_inside w h r n e l =
    let k : (2 * r + 2) * w ≤ h * w = mul-le-mul_right w (let m : 2 * r + 2 ≤ h = omega arith in m) in
    omega arith

pub room-inside : (w h r : ℕ) {n m : ℕ} → h / 2 * (w / 2) ≤ n → m ≡ n → r < h / 2 → r * (w / 2) + w / 2 ≤ m
room-inside w h r e q l =
    let k : (r + 1) * (w / 2) ≤ h / 2 * (w / 2) = mul-le-mul_right (w / 2) (let m : r + 1 ≤ h / 2 = omega arith in m) in
    omega arith

pub length-half_plane : (p : List ℕ) (w h : ℕ) → length (half_plane p w h) ≡ h / 2 * (w / 2)
unfolding half_plane
length-half_plane p w h = length-row_by_row (half_pel p w) (w / 2) (h / 2)
