-- A window: each element is the clamped displaced pel; a row of it that lies inside is a part of the plane.
-- Assumes nothing.
use Prim.Native.Nat.{ℕ, ◌+◌, ◌*◌, ◌-◌, ◌≤◌, ◌<◌, min}
use mathlib.Core.List.{List}
use mathlib.Core.Path.{◌≡◌, ◌∙◌}
use native.Mathlib.Nat.{le_refl, mul-le-mul_right}
use native.Mathlib.Omega.{arith}
use lib.ListN.{length, take, drop, get_or}
use Rattle.laws.specs.Buffer.{onto}
use Rattle.laws.specs.Parts.{listing}
use Rattle.laws.proofs.Placed.{onto-whole}
use Rattle.laws.proofs.Filling.{listing-same}
use Rattle.plane.specs.declared.Place.{Place}
use Rattle.plane.specs.declared.Offset.{Offset}
use Rattle.plane.specs.Plane.{row_by_row, pel_at, right}
use Rattle.plane.specs.Clamp.{displaced, offset}
use Rattle.plane.specs.Inner.{Inside, Starts, landing, row_pel, window_pel, window_of}
use Rattle.plane.proofs.Clamped.{displaced-is}
use Rattle.plane.proofs.Halves.{part_at}
use Rattle.plane.proofs.Listing.{length-row_by_row, get_d-row_by_row}

-- pel i of the part of n pels at a place
pel-of-part : (p : List ℕ) (place : Place) (n i a : ℕ) → Starts n place a → i < n → get_or (take (a + n - a) (drop a p)) i 0 ≡ pel_at p (right place i)
pel-of-part p place n i a s h =
    let e : a ≡ place.r * place.width + place.c = s.same in
    rw (part_at p a n i h, (let q : a + i ≡ place.r * place.width + (place.c + i) = omega arith in q))

column-inside : (w c b x n i : ℕ) → b ≤ c + x → c + x + n ≤ w + b → i < n → c + x - b + i ≡ min (c + i + x - b) (w - 1)
column-inside w c b x n i l m g = omega arith

-- the part of n pels that lies displaced from a place, inside the plane's columns
pub row_inside : (p : List ℕ) (place : Place) (by : Offset) (b n s : ℕ) → Starts n (landing place by b) s → Inside n place by.x b →
    listing (λ i. get_or (take (s + n - s) (drop s p)) i 0) n ≡ listing (row_pel p place by b) n
row_inside p place by b n s e l =
    listing-same _ (row_pel p place by b) n
    (λ i g.
    rw (
      pel-of-part p (landing place by b) n i s e g,
      displaced-is p (right place i) b by.y by.x,
      column-inside place.width place.c b by.x n i l.left l.right g,
    ))

-- each row of a window lies in a buffer of its size
pub row-of-window : (side a n : ℕ) → n ≡ side * side → a < side → a * side + side ≤ n
row-of-window side a n e l =
    let k : (a + 1) * side ≤ side * side = mul-le-mul_right side (let q : a + 1 ≤ side = omega arith in q) in
    omega arith

-- all its rows are the window
pub window-whole : (p : List ℕ) (place : Place) (by : Offset) (bias side : ℕ) (old : List ℕ) (a : ℕ) {out : List ℕ} → a ≡ side → length old ≡ side * side →
    out ≡ onto (row_by_row (window_pel p place by bias) side a) old → out ≡ window_of p place by bias side
unfolding window_of
window-whole p place by bias side old a e l q =
    q ∙ rw e (onto-whole (row_by_row (window_pel p place by bias) side side) old (rw (length-row_by_row (window_pel p place by bias) side side, l) (le_refl (side * side))))

-- element (a, b) of a window
pub window-at : (p : List ℕ) (place : Place) (by : Offset) (bias side a b : ℕ) → a < side → b < side →
    get_or (window_of p place by bias side) (a * side + b) 0 ≡ window_pel p place by bias a b
unfolding window_of
window-at p place by bias side a b l m = get_d-row_by_row (window_pel p place by bias) side side a b 0 l m

-- one pel, displaced from two places: the coordinates are the same before they are clamped
pub displaced-same : (p : List ℕ) (w h r c b oy ox r' c' b' y x : ℕ) → r + oy + b' ≡ r' + y + b → c + ox + b' ≡ c' + x + b →
    displaced p (record { width = w; height = h; r = r; c = c }) (offset b oy) (offset b ox)
    ≡ displaced p (record { width = w; height = h; r = r'; c = c' }) (offset b' y) (offset b' x)
displaced-same p w h r c b oy ox r' c' b' y x e f =
    let q : r + oy - b ≡ r' + y - b' = omega arith in
    let s : c + ox - b ≡ c' + x - b' = omega arith in
    rw (
      displaced-is p (record { width = w; height = h; r = r; c = c }) b oy ox,
      displaced-is p (record { width = w; height = h; r = r'; c = c' }) b' y x,
      q,
      s,
    )

-- a pel that isn't displaced
pub displaced-none : (p : List ℕ) (place : Place) → place.r < place.height → place.c < place.width → displaced p place (offset 0 0) (offset 0 0) ≡ pel_at p place
displaced-none p place l m =
    let q : min (place.r + 0 - 0) (place.height - 1) ≡ place.r = omega arith in
    let s : min (place.c + 0 - 0) (place.width - 1) ≡ place.c = omega arith in
    rw (displaced-is p place 0 0 0, q, s)
