-- The stages on a block and a window, as the code runs them, are the stages on the planes that both are taken from.
-- Assumes nothing.
use Prim.Native.Nat.{ℕ, ◌+◌, ◌*◌, ◌-◌, ◌/◌, ◌%◌, ◌≤◌, ◌<◌}
use mathlib.Core.Bool.{Bool, true, false}
use mathlib.Core.List.{List}
use mathlib.Core.Path.{◌≡◌, refl, ap, ◌∙◌}
use native.Mathlib.Omega.{arith}
use lib.Dec.{ltb, eqb}
use lib.IntN.{ℤ}
use Rattle.laws.specs.Loops.{run}
use Rattle.laws.specs.Refusal.{choose}
use Rattle.plane.specs.declared.Place.{Place}
use Rattle.plane.specs.declared.Offset.{Offset}
use Rattle.plane.specs.Clamp.{offset}
use Rattle.plane.specs.Inner.{window_of}
use Rattle.plane.proofs.Offsets.{offset-add, offset-pos, offset-magnitude}
use Rattle.cost.specs.declared.Added.{Added}
use Rattle.cost.specs.Ended.{ended, row_costs, eighths_costs}
use Rattle.cost.specs.Inner.{window_costs, bilinear_window_costs}
use Rattle.cost.proofs.Laid.{window_costs-are, eighths_costs-are}
use Rattle.stage.specs.declared.Best.{Best}
use Rattle.stage.specs.Stage.{side, square, row_offset, column_offset}
use Rattle.stage.specs.Early.{Tally, begun, tried, consider_early, scan_early, magnitudes, nothing, coarse_early, full_pel_early, eighths_step_early, refined_early, fine_early}
use Rattle.stage.specs.Inner.{seen, replaced, start_of, turn, at, magnitudes_of, coarse_motion, coarse_in, full_motion, full_pel_in, step_motion}
use Rattle.stage.specs.Inner.{step_in, refined_in, eightfold, fine_in, Block, Roomy, Next, Leads, FineIn, Steady}
use Rattle.stage.proofs.Motion.{offset-same, eightfold-stored}
use Rattle.stage.proofs.Reach.{stepped, reached-here, steady-after, steady-start, steady-less, step_in-lies, full_pel_in-lies, coarse_in-lies}
use Rattle.stage.proofs.Early.{run-seen}

seen-replaced : (b : ℕ) (best : Best) (new : Added) (by : Offset) → seen b (replaced best new by) ≡ tried (seen b best) new (offset b by.y) (offset b by.x)
seen-replaced b best new by = split (ltb new.cost best.cost)
  where
    split : (t : Bool) →
        seen b (choose t (record { cost = new.cost; y = by.y; x = by.x; rows = best.rows + new.rows }) (record { cost = best.cost; y = best.y; x = best.x; rows = best.rows + new.rows }))
        ≡ record {
          best = choose t (record { cost = new.cost; dy = offset b by.y; dx = offset b by.x }) (record { cost = best.cost; dy = offset b best.y; dx = offset b best.x });
          rows = best.rows + new.rows;
        }
    split true = refl
    split false = refl

-- one candidate under the bias b
module _ (costs : ℕ → List ℕ) (offset_cost : ℕ → ℕ) (motion : ℕ → Offset) (signed : ℤ → ℤ → List ℕ) (signed_cost : ℤ → ℤ → ℕ) (reach step b cy cx : ℕ) where
  -- it is the k-th of the square
  pub record Stands (k : ℕ) : Type 0 where
    pub row : (motion k).y + reach * step ≡ cy + k / side reach * step
    pub column : (motion k).x + reach * step ≡ cx + k % side reach * step
    pub rows : costs k ≡ signed (offset b (motion k).y) (offset b (motion k).x)
    pub price : offset_cost k ≡ signed_cost (offset b (motion k).y) (offset b (motion k).x)

  turn-seen : (k : ℕ) (best : Best) → Stands k →
      seen b (turn costs offset_cost motion reach k best) ≡ consider_early signed signed_cost reach step (offset b cy) (offset b cx) k (seen b best)
  unfolding turn consider_early
  turn-seen k best s = split (eqb k (square reach / 2)) refl
    where
      split : (t : Bool) → eqb k (square reach / 2) ≡ t →
          seen b (turn costs offset_cost motion reach k best) ≡ consider_early signed signed_cost reach step (offset b cy) (offset b cx) k (seen b best)
      split true e = rw e refl
      split false e =
          let p : (motion k).y + reach * step ≡ cy + k / side reach * step = s.row in
          let q : (motion k).x + reach * step ≡ cx + k % side reach * step = s.column in
          let ty : row_offset reach step (offset b cy) k ≡ offset b (motion k).y =
          offset-add b cy (reach * step) (k / side reach * step) ∙ offset-same (b + reach * step) (cy + k / side reach * step) b (motion k).y (omega arith) in
          let tx : column_offset reach step (offset b cx) k ≡ offset b (motion k).x =
          offset-add b cx (reach * step) (k % side reach * step) ∙ offset-same (b + reach * step) (cx + k % side reach * step) b (motion k).x (omega arith) in
          rw (e, s.rows, s.price, ty, tx)
          (seen-replaced b best (ended best.cost (signed_cost (offset b (motion k).y) (offset b (motion k).x)) 0 (signed (offset b (motion k).y) (offset b (motion k).x))) (motion k))

  -- all of them
  pub scan-seen : (start : Best) → ((k : ℕ) → k < square reach → Stands k) →
      seen b (run (turn costs offset_cost motion reach) 0 (square reach) start) ≡ scan_early signed signed_cost reach step (offset b cy) (offset b cx) (seen b start)
  unfolding scan_early
  scan-seen start h =
      run-seen (seen b) (turn costs offset_cost motion reach) (consider_early signed signed_cost reach step (offset b cy) (offset b cx)) (square reach) start
      (λ k s l. turn-seen k s (h k l))

priced-as : (b : ℕ) (by : Offset) → magnitudes_of b by ≡ magnitudes (offset b by.y) (offset b by.x)
priced-as b by = rw (offset-magnitude b by.y, offset-magnitude b by.x)

start_seen : (b y x : ℕ) {l : List ℕ} (signed : ℤ → ℤ → List ℕ) → l ≡ signed (offset b y) (offset b x) → seen b (start_of l y x) ≡ begun signed (offset b y) (offset b x)
start_seen b y x signed e = rw e

-- rows of two stages together
both-seen : (rows : ℕ) (last : Best) {more : ℕ} {t : Tally} → rows ≡ more → seen 223 last ≡ t →
    seen 223 (record { cost = last.cost; y = last.y; x = last.x; rows = rows + last.rows }) ≡ record { best = t.best; rows = more + t.rows }
both-seen rows last {more} {t} e q = rw e (ap (λ (u : Tally). record { best = u.best; rows = more + u.rows }) q)

module _ (input ref : List ℕ) (place : Place) (none : Offset) (zy : none.y ≡ 0) (zx : none.x ≡ 0) where
  pub coarse-seen : Block 8 place → seen 12 (coarse_in (window_of input place none 0 8) (window_of ref place none 12 32)) ≡ coarse_early input ref place
  unfolding coarse_in coarse_early
  coarse-seen inside =
      let costs : ℕ → ℕ → List ℕ = λ y x. window_costs 8 32 (window_of input place none 0 8) (window_of ref place none 12 32) y x in
      let are : (y x : ℕ) → y ≤ 24 → x ≤ 24 → costs y x ≡ row_costs 8 input ref place (offset 12 y) (offset 12 x) =
      λ y x ly lx. window_costs-are input ref place none none zy zx 8 32 12 y x 12 y x inside.rows inside.columns (omega arith) (omega arith) (omega (arith, zy)) (omega (arith, zx)) in
      scan-seen (λ k. costs (k / 25) (k % 25)) (λ k. magnitudes_of 12 (coarse_motion k)) coarse_motion (row_costs 8 input ref place) magnitudes 12 1 12 12 12
      (start_of (costs 12 12) 12 12)
      (λ k l. record { row = omega arith; column = omega arith; rows = are (k / 25) (k % 25) (omega arith) (omega arith); price = priced-as 12 (coarse_motion k) })
      ∙ (ap (scan_early (row_costs 8 input ref place) magnitudes 12 1 (offset 12 12) (offset 12 12)) (start_seen 12 12 12 (row_costs 8 input ref place) (are 12 12 (omega arith) (omega arith)))
      ∙ rw (offset-pos 12 12 0 refl) refl)

  module _ (by : Offset) (inside : Block 16 place) (room : Roomy 3 54 by.y by.x) where
    pub full_pel-seen : seen 27 (full_pel_in by (window_of input place none 0 16) (window_of ref place by 31 24)) ≡ full_pel_early input ref place (offset 27 by.y) (offset 27 by.x)
    unfolding full_pel_in full_pel_early
    full_pel-seen =
        let ly : 3 ≤ by.y = room.y_low in
        let lx : 3 ≤ by.x = room.x_low in
        let costs : ℕ → ℕ → List ℕ = λ y x. window_costs 16 24 (window_of input place none 0 16) (window_of ref place by 31 24) y x in
        let are : (y x ty tx : ℕ) → y ≤ 8 → x ≤ 8 → y + by.y + 27 ≡ ty + 31 → x + by.x + 27 ≡ tx + 31 → costs y x ≡ row_costs 16 input ref place (offset 27 ty) (offset 27 tx) =
        λ y x ty tx hy hx p q. window_costs-are input ref place none by zy zx 16 24 31 y x 27 ty tx inside.rows inside.columns (omega arith) (omega arith) p q in
        scan-seen (λ k. costs (k / 7 + 1) (k % 7 + 1)) (λ k. magnitudes_of 27 (full_motion by k)) (full_motion by) (row_costs 16 input ref place) magnitudes 3 1 27 by.y by.x
        (start_of (costs 4 4) by.y by.x)
        (λ k l.
        record {
          row = omega arith;
          column = omega arith;
          rows = are (k / 7 + 1) (k % 7 + 1) (by.y + k / 7 - 3) (by.x + k % 7 - 3) (omega arith) (omega arith) (omega arith) (omega arith);
          price = priced-as 27 (full_motion by k);
        })
        ∙ ap (scan_early (row_costs 16 input ref place) magnitudes 3 1 (offset 27 by.y) (offset 27 by.x))
        (start_seen 27 by.y by.x (row_costs 16 input ref place) (are 4 4 by.y by.x (omega arith) (omega arith) (omega arith) (omega arith)))

    step-seen : (step : ℕ) (start : Best) → Steady step by (at start.y start.x) →
        seen 223 (step_in by step (window_of input place none 0 16) (window_of ref place by 31 24) start) ≡ eighths_step_early input ref place step (seen 223 start)
    unfolding step_in eighths_step_early
    step-seen step start s =
        let centre = at start.y start.x in
        scan-seen (λ k. bilinear_window_costs (window_of input place none 0 16) (window_of ref place by 31 24) by (step_motion centre step k)) (λ k. 0) (step_motion centre step)
        (eighths_costs input ref place) nothing 1 step 223 start.y start.x start
        (λ k l.
        let sy = stepped by.y step start.y (k / 3) room.y_low room.y_high s.y_around (omega arith) in
        let sx = stepped by.x step start.x (k % 3) room.x_low room.x_high s.x_around (omega arith) in
        record {
          row = sy.back;
          column = sx.back;
          rows = eighths_costs-are input ref place none by zy zx (step_motion centre step k) inside.rows inside.columns sy.reached sx.reached;
          price = refl;
        })

    refined-seen : (start : Offset) → Steady 7 by start →
        seen 223 (refined_in by start (window_of input place none 0 16) (window_of ref place by 31 24)) ≡ refined_early input ref place (offset 223 start.y) (offset 223 start.x)
    unfolding refined_in refined_early
    refined-seen start s =
        let block = window_of input place none 0 16 in
        let window = window_of ref place by 31 24 in
        let first = start_of (bilinear_window_costs block window by start) start.y start.x in
        let by_4 = step_in by 4 block window first in
        let by_2 = step_in by 2 block window by_4 in
        let s4 : Steady 4 by (at first.y first.x) = steady-less by start s (omega arith) in
        let s3 : Steady 3 by (at by_4.y by_4.x) = steady-after by first.y first.x by_4.y by_4.x s (step_in-lies by 4 block window first room s4) (omega arith) in
        let s2 : Steady 2 by (at by_4.y by_4.x) = steady-less by (at by_4.y by_4.x) s3 (omega arith) in
        let s1 : Steady 1 by (at by_2.y by_2.x) = steady-after by by_4.y by_4.x by_2.y by_2.x s3 (step_in-lies by 2 block window by_4 room s2) (omega arith) in
        let ry = s.y_around in
        let rx = s.x_around in
        step-seen 1 by_2 s1
        ∙ ap (eighths_step_early input ref place 1)
        (step-seen 2 by_4 s2
        ∙ ap (eighths_step_early input ref place 2)
        (step-seen 4 first s4
        ∙ ap (eighths_step_early input ref place 4)
        (start_seen 223 start.y start.x (eighths_costs input ref place)
        (eighths_costs-are input ref place none by zy zx start inside.rows inside.columns
        (reached-here by.y start.y room.y_high ry) (reached-here by.x start.x room.x_high rx)))))

    -- both, one after the other
    pub fine-seen : seen 223 (fine_in by (window_of input place none 0 16) (window_of ref place by 31 24)) ≡ fine_early input ref place (offset 27 by.y) (offset 27 by.x)
    unfolding fine_in fine_early
    fine-seen =
        let block = window_of input place none 0 16 in
        let window = window_of ref place by 31 24 in
        let full = full_pel_in by block window in
        let e = full_pel-seen in
        let r = refined-seen (eightfold (at full.y full.x)) (steady-start by full.y full.x (full_pel_in-lies by block window room)) in
        let ty = eightfold-stored full.y (ap (λ (t : Tally). t.best.dy) e) in
        let tx = eightfold-stored full.x (ap (λ (t : Tally). t.best.dx) e) in
        both-seen full.rows (refined_in by (eightfold (at full.y full.x)) block window) (ap (λ (t : Tally). t.rows) e) (r ∙ rw (ty, tx) refl)

-- what the code of a stage finds in its copies
pub coarse-leads : (input ref : List ℕ) (place : Place) (none : Offset) → none.y ≡ 0 → none.x ≡ 0 → Block 8 place → {block window : List ℕ} {best : Best} →
    block ≡ window_of input place none 0 8 → window ≡ window_of ref place none 12 32 → Next 5008 0 (coarse_in block window) best →
    Leads 12 24 5008 (coarse_early input ref place) best
coarse-leads input ref place none zy zx inside {block} {window} {best} p q n =
    let e : best ≡ coarse_in (window_of input place none 0 8) (window_of ref place none 12 32) = n.same ∙ rw (p, q) refl in
    let l = coarse_in-lies (window_of input place none 0 8) (window_of ref place none 12 32) in
    let ey : best.y ≡ (coarse_in (window_of input place none 0 8) (window_of ref place none 12 32)).y = ap (λ (b : Best). b.y) e in
    let ex : best.x ≡ (coarse_in (window_of input place none 0 8) (window_of ref place none 12 32)).x = ap (λ (b : Best). b.x) e in
    let few : best.rows ≤ 0 + 5008 = n.few in
    record {
      same = ap (seen 12) e ∙ coarse-seen input ref place none zy zx inside;
      y_last = omega (arith, ey, l.y_high);
      x_last = omega (arith, ex, l.x_high);
      few = omega arith;
    }

pub fine-leads : (input ref : List ℕ) (place : Place) (none by : Offset) → none.y ≡ 0 → none.x ≡ 0 → Block 16 place → Roomy 3 54 by.y by.x →
    {block window : List ℕ} {best : Best} → block ≡ window_of input place none 0 16 → window ≡ window_of ref place by 31 24 → FineIn by block window best →
    Leads 223 446 1248 (fine_early input ref place (offset 27 by.y) (offset 27 by.x)) best
fine-leads input ref place none by zy zx inside room {block} {window} {best} p q f =
    let e : best ≡ fine_in by (window_of input place none 0 16) (window_of ref place by 31 24) = f.same ∙ rw (p, q) refl in
    record {
      same = ap (seen 223) e ∙ fine-seen input ref place none zy zx by inside room;
      y_last = f.y_last;
      x_last = f.x_last;
      few = f.few;
    }
