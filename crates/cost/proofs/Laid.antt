-- A row of a block laid on a window, from parts of both; and what such rows cost on the planes that block and window are taken from.
-- Assumes nothing.
use Prim.Native.Nat.{ℕ, ◌+◌, ◌*◌, ◌-◌, ◌/◌, ◌≤◌, ◌<◌}
use mathlib.Core.List.{List}
use mathlib.Core.Path.{◌≡◌, ◌∙◌}
use native.Mathlib.Omega.{arith}
use lib.IntN.{ℤ}
use lib.ListN.{take, drop, get_or}
use Rattle.laws.proofs.Loops.{sum_same}
use Rattle.laws.proofs.Filling.{listing-same}
use Rattle.laws.specs.Parts.{listing}
use Rattle.plane.specs.declared.Place.{Place}
use Rattle.plane.specs.declared.Offset.{Offset}
use Rattle.plane.specs.Plane.{pel_at, down, right}
use Rattle.plane.specs.Clamp.{displaced, offset}
use Rattle.plane.specs.Inner.{window_of, Is}
use Rattle.plane.proofs.Halves.{part_at}
use Rattle.plane.proofs.Windows.{window-at, displaced-same, displaced-none}
use Rattle.cost.specs.Cost.{block_cost, eighths_cost, row_cost, bilinear_cost, bilinear_row_cost, predicted, whole, fraction}
use Rattle.cost.specs.Ended.{total, added, ended, row_costs, eighths_costs}
use Rattle.cost.specs.Inner.{row_difference, window_cost, window_costs, bilinear_window_cost, bilinear_window_costs, whole_in, fraction_of, Reached, Sums}
use Rattle.cost.proofs.Ended.{Left, next, stops, all, total-listing}
use Rattle.cost.proofs.Stored.{whole-of-stored, fraction-of-stored}

-- the row as the code cuts it out
abbrev cut : (n side : ℕ) (block window : List ℕ) (y x i : ℕ) → ℕ
cut n side block window y x i =
    row_difference n (take (i * n + n - i * n) (drop (i * n) block)) (take ((y + i) * side + x + n - ((y + i) * side + x)) (drop ((y + i) * side + x) window))

row_laid : (n side : ℕ) (block window : List ℕ) (y x i : ℕ) → cut n side block window y x i ≡ window_cost n side block window y x i
unfolding row_difference window_cost
row_laid n side block window y x i =
    sum_same _ _ n (λ j g. rw (part_at block (i * n) n j g, part_at window ((y + i) * side + x) n j g))

-- what a loop over the rows of a block of any side keeps, whatever its window's side
pub record Laid (n side b : ℕ) (block window : List ℕ) (y x best start i cost : ℕ) : Type 0 where
  pub rows : Left best start (window_cost n side block window y x) n b i cost

module _ {n side b : ℕ} {block window : List ℕ} {y x best start i cost : ℕ} (a : Laid n side b block window y x best start i cost) where
  pub row_next : {d : ℕ} → i < n → Is (cut n side block window y x i) b d → cost + d < best → Laid n side b block window y x best start (i + 1) (cost + d)
  row_next l is h = record { rows = next a.rows l (is.same ∙ row_laid n side block window y x i) is.small h }

  pub row-stops : {d : ℕ} → i < n → Is (cut n side block window y x i) b d → best ≤ cost + d → start + b * n ≤ 16777472 →
      Sums n (ended best start 0 (window_costs n side block window y x)) (added (cost + d) (i + 1))
  unfolding window_costs
  row-stops l is h k = stops a.rows l (is.same ∙ row_laid n side block window y x i) is.small h k

  pub rows_all : n ≤ i → start + b * n ≤ 16777472 → Sums n (ended best start 0 (window_costs n side block window y x)) (added cost n)
  unfolding window_costs
  rows_all l k = all a.rows l k

-- the whole sums
pub total-row_costs : (n : ℕ) (input ref : List ℕ) (place : Place) (dy dx : ℤ) → total (row_costs n input ref place dy dx) ≡ block_cost n input ref place dy dx
unfolding row_costs block_cost
total-row_costs n input ref place dy dx = total-listing _ n

pub total-eighths_costs : (input ref : List ℕ) (place : Place) (v u : ℤ) → total (eighths_costs input ref place v u) ≡ eighths_cost input ref place v u
unfolding eighths_costs eighths_cost bilinear_cost
total-eighths_costs input ref place v u =
    total-listing (λ i. bilinear_row_cost 16 input ref (down place i) (whole v) (whole u) (fraction v) (fraction u)) 16

-- a block inside its plane, as a window that isn't displaced
pub block-pel : (input : List ℕ) (place : Place) (none : Offset) (n i j : ℕ) → none.y ≡ 0 → none.x ≡ 0 → place.r + n ≤ place.height → place.c + n ≤ place.width → i < n → j < n →
    get_or (window_of input place none 0 n) (i * n + j) 0 ≡ pel_at input (right (down place i) j)
block-pel input place none n i j zy zx rows columns l m =
    window-at input place none 0 n i j l m
    ∙ rw (zy, zx) (displaced-none input (right (down place i) j) (omega arith) (omega arith))

module _ (input ref : List ℕ) (place : Place) (none by : Offset) (zy : none.y ≡ 0) (zx : none.x ≡ 0) where
  -- a window biased by B about an offset, and a candidate at row y, column x of it, biased by b
  pub window-pel : (B side a c i j b ty tx : ℕ) → a < side → c < side → a + by.y + b ≡ i + ty + B → c + by.x + b ≡ j + tx + B →
      get_or (window_of ref place by B side) (a * side + c) 0 ≡ displaced ref (right (down place i) j) (offset b ty) (offset b tx)
  window-pel B side a c i j b ty tx l m p q =
      window-at ref place by B side a c l m
      ∙ displaced-same ref place.width place.height (place.r + a) (place.c + c) B by.y by.x (place.r + i) (place.c + j) b ty tx (omega arith) (omega arith)

  pub window_costs-are : (n side B y x b ty tx : ℕ) → place.r + n ≤ place.height → place.c + n ≤ place.width → y + n ≤ side → x + n ≤ side →
      y + by.y + b ≡ ty + B → x + by.x + b ≡ tx + B →
      window_costs n side (window_of input place none 0 n) (window_of ref place by B side) y x ≡ row_costs n input ref place (offset b ty) (offset b tx)
  unfolding window_costs row_costs window_cost row_cost
  window_costs-are n side B y x b ty tx rows columns ly lx p q =
      listing-same _ _ n
      (λ i l.
      sum_same _ _ n
      (λ j m.
      let e : (y + i) * side + x + j ≡ (y + i) * side + (x + j) = omega arith in
      rw (
        block-pel input place none n i j zy zx rows columns l m,
        e,
        window-pel B side (y + i) (x + j) i j b ty tx (omega arith) (omega arith) (omega arith) (omega arith),
      )))

  -- and between pels: a row and a column more of the window
  pub bilinear_costs-are : (side B y x b ty tx fy fx : ℕ) (n : ℕ) → place.r + n ≤ place.height → place.c + n ≤ place.width → y + n + 1 ≤ side → x + n + 1 ≤ side →
      y + by.y + b ≡ ty + B → x + by.x + b ≡ tx + B →
      listing (bilinear_window_cost n side (window_of input place none 0 n) (window_of ref place by B side) y x fy fx) n
      ≡ listing (λ i. bilinear_row_cost n input ref (down place i) (offset b ty) (offset b tx) fy fx) n
  unfolding bilinear_window_cost bilinear_row_cost predicted
  bilinear_costs-are side B y x b ty tx fy fx n rows columns ly lx p q =
      listing-same _ _ n
      (λ i l.
      sum_same _ _ n
      (λ j m.
      let e00 : (y + i) * side + x + j ≡ (y + i) * side + (x + j) = omega arith in
      let e01 : (y + i) * side + x + (j + 1) ≡ (y + i) * side + (x + (j + 1)) = omega arith in
      let e10 : (y + i) * side + x + side + j ≡ (y + i + 1) * side + (x + j) = omega arith in
      let e11 : (y + i) * side + x + side + (j + 1) ≡ (y + i + 1) * side + (x + (j + 1)) = omega arith in
      let c01 : place.c + (j + 1) ≡ place.c + j + 1 = omega arith in
      let r10 : place.r + (i + 1) ≡ place.r + i + 1 = omega arith in
      rw (
        block-pel input place none n i j zy zx rows columns l m,
        e00,
        e01,
        e10,
        e11,
        window-pel B side (y + i) (x + j) i j b ty tx (omega arith) (omega arith) (omega arith) (omega arith),
        window-pel B side (y + i) (x + (j + 1)) i (j + 1) b ty tx (omega arith) (omega arith) (omega arith) (omega arith),
        window-pel B side (y + i + 1) (x + j) (i + 1) j b ty tx (omega arith) (omega arith) (omega arith) (omega arith),
        window-pel B side (y + i + 1) (x + (j + 1)) (i + 1) (j + 1) b ty tx (omega arith) (omega arith) (omega arith) (omega arith),
        c01,
        r10,
      )))

  -- at a motion in eighths that the window about `by` reaches
  pub eighths_costs-are : (motion : Offset) → place.r + 16 ≤ place.height → place.c + 16 ≤ place.width → Reached by.y motion.y → Reached by.x motion.x →
      bilinear_window_costs (window_of input place none 0 16) (window_of ref place by 31 24) by motion
      ≡ eighths_costs input ref place (offset 223 motion.y) (offset 223 motion.x)
  unfolding bilinear_window_costs eighths_costs
  eighths_costs-are motion rows columns py px =
      let ly : 8 * by.y ≤ motion.y + 24 = py.low in
      let hy : motion.y ≤ 8 * by.y + 38 = py.high in
      let lx : 8 * by.x ≤ motion.x + 24 = px.low in
      let hx : motion.x ≤ 8 * by.x + 38 = px.high in
      rw (whole-of-stored motion.y, whole-of-stored motion.x, fraction-of-stored motion.y, fraction-of-stored motion.x)
      (bilinear_costs-are 24 31 (whole_in by.y motion.y) (whole_in by.x motion.x) 28 ((motion.y + 1) / 8) ((motion.x + 1) / 8)
      (fraction_of motion.y) (fraction_of motion.x) 16 rows columns (omega arith) (omega arith) (omega arith) (omega arith))
