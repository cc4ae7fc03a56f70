-- Candidates of which none wins leave the best with their rows more; beside a best of 0 each of them adds one row.
-- Assumes nothing.
use Prim.Native.Nat.{ℕ, zero, suc, ◌+◌, ◌*◌, ◌/◌, ◌%◌, ◌≤◌, ◌<◌}
use mathlib.Core.List.{List, [], ◌∷◌}
use mathlib.Core.Path.{◌≡◌, refl, sym, ap, subst, ◌∙◌}
use native.Mathlib.Omega.{arith}
use lib.ListN.{length, get_or}
use borrow.Author.Tests.{ne_eqb, le-ltb}
use Rattle.laws.specs.Loops.{run, sum}
use Rattle.laws.proofs.Loops.{run_step, run_end, sum_same}
use Rattle.laws.proofs.Filling.{length-listing}
use Rattle.plane.specs.declared.Offset.{Offset}
use Rattle.plane.specs.Difference.{difference}
use Rattle.cost.specs.declared.Added.{Added}
use Rattle.cost.specs.Ended.{ended}
use Rattle.cost.specs.Inner.{window_cost, window_costs, bilinear_window_cost, bilinear_window_costs, whole_in, fraction_of}
use Rattle.cost.proofs.Bounded.{Filling, fill-at, fill-small}
use Rattle.lanes.specs.declared.Counted.{Counted}
use Rattle.lanes.specs.Inner.{live, spread_of, lane_costs, Laned, Counts}
use Rattle.lanes.proofs.Going.{sum-zero, sum_ones, live-zero}
use Rattle.lanes.proofs.Lanes.{lane-is-candidate}
use Rattle.stage.specs.declared.Best.{Best}
use Rattle.stage.specs.Stage.{square}
use Rattle.stage.specs.Inner.{turn, more_rows, at, magnitudes_of, coarse_motion, coarse_turn, full_motion, full_turn, step_motion, step_in, steps_in, Coarse, Next, Columns, Beside, Offsets}
use Rattle.stage.proofs.Turns.{run-split, turn-middle}

-- the same best with its rows counted two ways
abbrev with_rows : Best → ℕ → Best
with_rows best n = record { cost = best.cost; y = best.y; x = best.x; rows = n }

rows_same : (best : Best) (m n : ℕ) → m ≡ n → with_rows best m ≡ with_rows best n
rows_same best m n e = ap (with_rows best) e

more-more : (best : Best) (m n : ℕ) → more_rows (more_rows best m) n ≡ more_rows best (m + n)
more-more best m n = rows_same best (best.rows + m + n) (best.rows + (m + n)) (omega arith)

run-one : (f : ℕ → Best → Best) (m : ℕ) (s : Best) → run f m (m + 1) s ≡ f m s
run-one f m s = run_step f m (m + 1) s (omega arith) ∙ run_end f (m + 1) (m + 1) (f m s) (omega arith)

-- against a best of 0
ended-at-zero : (o : ℕ) (l : List ℕ) → 0 < length l → (ended 0 o 0 l).rows ≡ 1
ended-at-zero o [] h = absurd (omega arith)
ended-at-zero o (c ∷ l) h = rw (le-ltb (o + c) 0 (omega arith)) refl

module _ (costs : ℕ → List ℕ) (offset_cost : ℕ → ℕ) (motion : ℕ → Offset) (reach : ℕ) where
  turn-loses : (k : ℕ) (best : Best) → (k ≡ square reach / 2 → ⊥) → best.cost ≤ (ended best.cost (offset_cost k) 0 (costs k)).cost →
      turn costs offset_cost motion reach k best ≡ more_rows best (ended best.cost (offset_cost k) 0 (costs k)).rows
  unfolding turn
  turn-loses k best ne h = rw (ne_eqb k (square reach / 2) ne, le-ltb (ended best.cost (offset_cost k) 0 (costs k)).cost best.cost h) refl

  -- n of them from the k-th on
  pub none-wins : (k n : ℕ) (best : Best) → ((j : ℕ) → j < n → k + j ≡ square reach / 2 → ⊥) →
      ((j : ℕ) → j < n → best.cost ≤ (ended best.cost (offset_cost (k + j)) 0 (costs (k + j))).cost) →
      run (turn costs offset_cost motion reach) k (k + n) best ≡ more_rows best (sum (λ j. (ended best.cost (offset_cost (k + j)) 0 (costs (k + j))).rows) n)
  none-wins k zero best ne h =
      run_end (turn costs offset_cost motion reach) k (k + 0) best (omega arith) ∙ rows_same best best.rows (best.rows + 0) (omega arith)
  none-wins k (suc n) best ne h =
      let f = turn costs offset_cost motion reach in
      let s = sum (λ j. (ended best.cost (offset_cost (k + j)) 0 (costs (k + j))).rows) n in
      let e : k + suc n ≡ k + n + 1 = omega arith in
      ap (λ (m : ℕ). run f k m best) e
      ∙ (run-split f k (k + n) (k + n + 1) best (omega arith) (omega arith)
      ∙ (ap (run f (k + n) (k + n + 1)) (none-wins k n best (λ j l. ne j (omega arith)) (λ j l. h j (omega arith)))
      ∙ (run-one f (k + n) (more_rows best s)
      ∙ (turn-loses (k + n) (more_rows best s) (ne n (omega arith)) (h n (omega arith))
      ∙ more-more best s (ended best.cost (offset_cost (k + n)) 0 (costs (k + n))).rows))))

  module _ (long : (j : ℕ) → 0 < length (costs j)) where
    idle-from : (k n : ℕ) (best : Best) → ((j : ℕ) → j < n → k + j ≡ square reach / 2 → ⊥) → best.cost ≡ 0 → run (turn costs offset_cost motion reach) k (k + n) best ≡ more_rows best n
    idle-from k n best ne z =
        none-wins k n best ne (λ j l. omega (arith, z))
        ∙ ap (more_rows best)
        (sum_same (λ j. (ended best.cost (offset_cost (k + j)) 0 (costs (k + j))).rows) (λ j. 1) n
        (λ j l. ap (λ (b : ℕ). (ended b (offset_cost (k + j)) 0 (costs (k + j))).rows) z ∙ ended-at-zero (offset_cost (k + j)) (costs (k + j)) (long (k + j)))
        ∙ sym (sum_ones n))

    -- all of a square but its middle
    pub idle-square : (m : ℕ) (best : Best) → m ≡ square reach / 2 → best.cost ≡ 0 → run (turn costs offset_cost motion reach) 0 (m + 1 + m) best ≡ more_rows best (m + m)
    idle-square m best e z =
        let f = turn costs offset_cost motion reach in
        let q : m ≡ 0 + m = omega arith in
        run-split f 0 m (m + 1 + m) best (omega arith) (omega arith)
        ∙ (ap (run f m (m + 1 + m)) (ap (λ (i : ℕ). run f 0 i best) q ∙ idle-from 0 m best (λ j l g. omega arith) z)
        ∙ (run_step f m (m + 1 + m) (more_rows best m) (omega arith)
        ∙ (ap (run f (m + 1) (m + 1 + m)) (sym (turn-middle costs offset_cost motion reach m (more_rows best m) e))
        ∙ (idle-from (m + 1) m (more_rows best m) (λ j l g. omega arith) z ∙ more-more best m m))))

-- ---- each stage at a best of 0

whole_long : (n side : ℕ) (block window : List ℕ) (y x : ℕ) → 0 < n → 0 < length (window_costs n side block window y x)
unfolding window_costs
whole_long n side block window y x l = rw (length-listing (window_cost n side block window y x) n) l

bilinear-long : (block window : List ℕ) (corner m : Offset) → 0 < length (bilinear_window_costs block window corner m)
unfolding bilinear_window_costs
bilinear-long block window corner m =
    rw (length-listing (bilinear_window_cost 16 24 block window (whole_in corner.y m.y) (whole_in corner.x m.x) (fraction_of m.y) (fraction_of m.x)) 16)
    (omega arith)

module _ (block window : List ℕ) where
  pub coarse-idle : (best : Best) → best.cost ≡ 0 → run (coarse_turn block window) 0 625 best ≡ more_rows best 624
  coarse-idle best z =
      idle-square (λ k. window_costs 8 32 block window (k / 25) (k % 25)) (λ k. magnitudes_of 12 (coarse_motion k)) coarse_motion 12
      (λ j. whole_long 8 32 block window (j / 25) (j % 25) (omega arith)) 312 best refl z

  pub full-idle : (centre : Offset) (best : Best) → best.cost ≡ 0 → run (full_turn centre block window) 0 49 best ≡ more_rows best 48
  full-idle centre best z =
      idle-square (λ k. window_costs 16 24 block window (k / 7 + 1) (k % 7 + 1)) (λ k. magnitudes_of 27 (full_motion centre k)) (full_motion centre) 3
      (λ j. whole_long 16 24 block window (j / 7 + 1) (j % 7 + 1) (omega arith)) 24 best refl z

  pub step-idle : (corner : Offset) (step : ℕ) (best : Best) → best.cost ≡ 0 → step_in corner step block window best ≡ more_rows best 8
  unfolding step_in
  step-idle corner step best z =
      let centre = at best.y best.x in
      idle-square (λ k. bilinear_window_costs block window corner (step_motion centre step k)) (λ k. 0) (step_motion centre step) 1
      (λ j. bilinear-long block window corner (step_motion centre step j)) 4 best refl z

  pub steps-idle : (corner : Offset) (best : Best) → best.cost ≡ 0 → steps_in corner block window best ≡ more_rows best 24
  steps-idle corner best z =
      let p : step_in corner 4 block window best ≡ more_rows best 8 = step-idle corner 4 best z in
      let q : step_in corner 2 block window (more_rows best 8) ≡ more_rows best 16 = step-idle corner 2 (more_rows best 8) z ∙ more-more best 8 8 in
      let r : step_in corner 1 block window (more_rows best 16) ≡ more_rows best 24 = step-idle corner 1 (more_rows best 16) z ∙ more-more best 16 8 in
      ap (λ (b : Best). step_in corner 1 block window (step_in corner 2 block window b)) p ∙ (ap (step_in corner 1 block window) q ∙ r)

  -- ---- eight coarse candidates of which none wins

  module _ (spread : List ℕ) (best : Best) (y x : ℕ) {starts : List ℕ} {counted : Counted} (pels : length block ≡ 64) (same : spread ≡ spread_of block) (b : Beside y x) (o : Offsets y x starts)
      (c : Counts best.cost (λ k. ended best.cost (get_or starts k 0) 0 (lane_costs spread window y x k)) counted) where
    sum_is : (k : ℕ) → k < 8 → ended best.cost (get_or starts k 0) 0 (lane_costs spread window y x k)
        ≡ ended best.cost (magnitudes_of 12 (coarse_motion (y * 25 + x + k))) 0 (window_costs 8 32 block window ((y * 25 + x + k) / 25) ((y * 25 + x + k) % 25))
    sum_is k l =
        let p : (y * 25 + x + k) / 25 ≡ y = (let w = b.columns in omega arith) in
        let q : (y * 25 + x + k) % 25 ≡ x + k = (let w = b.columns in omega arith) in
        let e : lane_costs spread window y x k ≡ window_costs 8 32 block window y (x + k) =
        ap (λ (s : List ℕ). lane_costs s window y x k) same ∙ lane-is-candidate block window y x k pels l in
        rw (p, q, o.each k l, e) refl

    pub eight-lose : counted.below ≡ 0 → Next 64 best.rows (run (coarse_turn block window) (y * 25 + x) (y * 25 + (x + 8)) best) (more_rows best counted.rows)
    eight-lose z =
        let over : (k : ℕ) → k < 8 → best.cost
        ≤ (ended best.cost (magnitudes_of 12 (coarse_motion (y * 25 + x + k))) 0 (window_costs 8 32 block window ((y * 25 + x + k) / 25) ((y * 25 + x + k) % 25))).cost =
        λ k l.
        subst (λ (a : Added). best.cost ≤ a.cost) (sum_is k l)
        (live-zero best.cost (ended best.cost (get_or starts k 0) 0 (lane_costs spread window y x k)).cost
        (sum-zero (λ j. live best.cost (ended best.cost (get_or starts j 0) 0 (lane_costs spread window y x j)).cost) 8 k (sym c.all_below ∙ z) l)) in
        let apart : (j : ℕ) → j < 8 → y * 25 + x + j ≡ 312 → ⊥ = λ j l e. b.apart (let w = b.columns in omega arith) in
        let rows : counted.rows
        ≡ sum (λ k. (ended best.cost (magnitudes_of 12 (coarse_motion (y * 25 + x + k))) 0 (window_costs 8 32 block window ((y * 25 + x + k) / 25) ((y * 25 + x + k) % 25))).rows) 8 =
        c.all_rows
        ∙ sum_same (λ k. (ended best.cost (get_or starts k 0) 0 (lane_costs spread window y x k)).rows)
        (λ k. (ended best.cost (magnitudes_of 12 (coarse_motion (y * 25 + x + k))) 0 (window_costs 8 32 block window ((y * 25 + x + k) / 25) ((y * 25 + x + k) % 25))).rows)
        8
        (λ k l. ap (λ (a : Added). a.rows) (sum_is k l)) in
        let end : y * 25 + (x + 8) ≡ y * 25 + x + 8 = omega arith in
        record {
          same =
              sym
              (ap (λ (m : ℕ). run (coarse_turn block window) (y * 25 + x) m best) end
              ∙ (none-wins (λ k. window_costs 8 32 block window (k / 25) (k % 25)) (λ k. magnitudes_of 12 (coarse_motion k)) coarse_motion 12 (y * 25 + x) 8 best apart over
              ∙ ap (more_rows best) (sym rows)));
          few = let w = c.few in omega arith;
        }

-- the offset costs of eight candidates side by side, as the code fills them in
pub offsets_are : (y x : ℕ) {k : ℕ} {old costs : List ℕ} → Filling (λ j. magnitudes_of 12 (at y (x + j))) (λ j. magnitudes_of 12 (at y (x + j))) 512 8 old costs k → 8 ≤ k → Offsets y x costs
offsets_are y x f l =
    record { each = fill-at f l; small = λ j m. omega (arith, fill-at f l j m, fill-small f l j m) }

-- the columns' costs, as the code fills them in
pub columns-are : {old costs : List ℕ} {x : ℕ} → Filling (λ i. 0) (λ i. difference i 12) 0 25 old costs x → 25 ≤ x → Columns costs
columns-are f l = record { long = f.long; each = fill-at f l }

-- what the lanes ask
pub laned : {block spread window : List ℕ} {y x : ℕ} → Coarse block window → spread ≡ spread_of block → Beside y x → Laned spread window y x
unfolding spread_of
laned {block} {spread} {window} {y} {x} c e b =
    let p : 8 * length block ≡ 512 = omega (arith, c.pels) in
    record {
      pels = ap (λ (l : List ℕ). length l) e ∙ (length-listing (λ i. get_or block (i / 8) 0) (8 * length block) ∙ p);
      seen = c.seen;
      rows = omega (arith, b.row);
      columns = omega (arith, b.columns);
    }

-- the offset cost of candidate k of eight: its row's part and its column's
pub offset-next : (y x k : ℕ) {row : ℕ} {columns : List ℕ} → x ≤ 17 → k < 8 → row ≡ difference y 12 → Columns columns → row + get_or columns (x + k) 0 ≡ magnitudes_of 12 (at y (x + k))
offset-next y x k {row} {columns} l m e c =
    ap (λ (r : ℕ). r + get_or columns (x + k) 0) e ∙ ap (λ (q : ℕ). difference y 12 + q) (c.each (x + k) (omega arith))

pub offset-small : (y x k : ℕ) → y < 25 → x ≤ 17 → k < 8 → magnitudes_of 12 (at y (x + k)) ≤ 512
offset-small y x k l m n = omega arith
