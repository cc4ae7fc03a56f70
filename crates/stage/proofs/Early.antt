-- With sums that end early the stages find what they find with whole ones; and how many rows they add.
-- Assumes nothing.
use Prim.Native.Nat.{ℕ, zero, suc, ◌+◌, ◌*◌, ◌-◌, ◌/◌, ◌≤◌, ◌<◌, min}
use mathlib.Core.Bool.{Bool, true, false}
use mathlib.Core.List.{List}
use mathlib.Core.Path.{◌≡◌, refl, ap, subst, ◌∙◌}
use native.Mathlib.Omega.{arith}
use lib.Dec.{ltb, eqb}
use lib.IntN.{ℤ, pos, ◌*ℤ◌}
use lib.ListN.{length}
use borrow.Author.Tests.{ltb-true, eqb-true, eqb-false}
use Rattle.laws.specs.Loops.{run, turns}
use Rattle.laws.proofs.Filling.{length-listing}
use Rattle.plane.specs.declared.Place.{Place}
use Rattle.plane.specs.Plane.{down}
use Rattle.cost.specs.declared.Added.{Added}
use Rattle.cost.specs.Cost.{block_cost, eighths_cost, row_cost, bilinear_row_cost, whole, fraction}
use Rattle.cost.specs.Ended.{total, ended, row_costs, eighths_costs}
use Rattle.cost.proofs.Ended.{early, early-test, ended-adds}
use Rattle.cost.proofs.Laid.{total-row_costs, total-eighths_costs}
use Rattle.stage.specs.Stage.{Found, better, square, row_offset, column_offset, consider, scan, with_offset, coarse, full_pel, eighths_step, refined}
use Rattle.stage.specs.Early.{Tally, begun, consider_early, scan_early, magnitudes, nothing, coarse_early, full_pel_early, eighths_step_early, refined_early, fine_early}
use Rattle.stage.proofs.Turns.{run-keeps}

-- one run seen through a function of its state
turns-seen : {S T : Type 0} (φ : S → T) (f : ℕ → S → S) (g : ℕ → T → T) (n i k : ℕ) (s : S) → i + k ≡ n → ((j : ℕ) (t : S) → j < n → φ (f j t) ≡ g j (φ t)) →
    φ (turns f k i s) ≡ turns g k i (φ s)
turns-seen φ f g n i zero s e h = refl
turns-seen φ f g n i (suc k) s e h = turns-seen φ f g n (suc i) k (f i s) (omega arith) h ∙ ap (turns g k (suc i)) (h i s (omega arith))

pub run-seen : {S T : Type 0} (φ : S → T) (f : ℕ → S → S) (g : ℕ → T → T) (n : ℕ) (s : S) → ((j : ℕ) (t : S) → j < n → φ (f j t) ≡ g j (φ t)) →
    φ (run f 0 n s) ≡ run g 0 n (φ s)
unfolding run
run-seen φ f g n s h = turns-seen φ f g n 0 (n - 0) s (omega arith) h

-- an ended sum that wins does so at its cost
pub early-better : (best : Found) (offset : ℕ) (l : List ℕ) (dy dx : ℤ) →
    better best (record { cost = (ended best.cost offset 0 l).cost; dy = dy; dx = dx }) ≡ better best (record { cost = offset + total l; dy = dy; dx = dx })
early-better best offset l dy dx = by (ltb (offset + total l) best.cost) refl
  where
    by : (t : Bool) → ltb (offset + total l) best.cost ≡ t →
        better best (record { cost = (ended best.cost offset 0 l).cost; dy = dy; dx = dx }) ≡ better best (record { cost = offset + total l; dy = dy; dx = dx })
    by true e =
        ap (λ (a : Added). better best (record { cost = a.cost; dy = dy; dx = dx })) ((early best.cost offset 0 l).same (ltb-true (offset + total l) best.cost e))
    by false e = rw (early-test best.cost offset l, e) refl

module _ (costs : ℤ → ℤ → List ℕ) (offset_cost price : ℤ → ℤ → ℕ) (same : (dy dx : ℤ) → offset_cost dy dx + total (costs dy dx) ≡ price dy dx) where
  consider-same : (reach step : ℕ) (cy cx : ℤ) (k : ℕ) (t : Tally) → (consider_early costs offset_cost reach step cy cx k t).best ≡ consider price reach step cy cx k t.best
  unfolding consider_early consider
  consider-same reach step cy cx k t = by (eqb k (square reach / 2)) refl
    where
      by : (b : Bool) → eqb k (square reach / 2) ≡ b → (consider_early costs offset_cost reach step cy cx k t).best ≡ consider price reach step cy cx k t.best
      by true e = rw e refl
      by false e =
          let dy = row_offset reach step cy k in
          let dx = column_offset reach step cx k in
          rw e
          (early-better t.best (offset_cost dy dx) (costs dy dx) dy dx
          ∙ ap (λ (c : ℕ). better t.best (record { cost = c; dy = dy; dx = dx })) (same dy dx))

  pub scan-same : (reach step : ℕ) (cy cx : ℤ) (t : Tally) → (scan_early costs offset_cost reach step cy cx t).best ≡ scan price reach step cy cx t.best
  unfolding scan_early scan
  scan-same reach step cy cx t =
      run-seen (λ (u : Tally). u.best) (consider_early costs offset_cost reach step cy cx) (consider price reach step cy cx) (square reach) t
      (λ k u l. consider-same reach step cy cx k u)

module _ (input ref : List ℕ) (place : Place) where
  whole-price : (n : ℕ) (dy dx : ℤ) → magnitudes dy dx + total (row_costs n input ref place dy dx) ≡ with_offset (block_cost n input ref place) dy dx
  whole-price n dy dx = rw (total-row_costs n input ref place dy dx) (omega arith)

  -- every stage finds what it found
  pub coarse-same : (coarse_early input ref place).best ≡ coarse input ref place
  unfolding coarse_early coarse
  coarse-same =
      scan-same (row_costs 8 input ref place) magnitudes (with_offset (block_cost 8 input ref place)) (whole-price 8) 12 1 (pos 0) (pos 0) (begun (row_costs 8 input ref place) (pos 0) (pos 0))
      ∙ rw (total-row_costs 8 input ref place (pos 0) (pos 0)) refl

  pub full_pel-same : (cy cx : ℤ) → (full_pel_early input ref place cy cx).best ≡ full_pel input ref place cy cx
  unfolding full_pel_early full_pel
  full_pel-same cy cx =
      scan-same (row_costs 16 input ref place) magnitudes (with_offset (block_cost 16 input ref place)) (whole-price 16) 3 1 cy cx (begun (row_costs 16 input ref place) cy cx)
      ∙ rw (total-row_costs 16 input ref place cy cx) refl

  pub eighths_step-same : (step : ℕ) (t : Tally) → (eighths_step_early input ref place step t).best ≡ eighths_step input ref place step t.best
  unfolding eighths_step_early eighths_step
  eighths_step-same step t =
      scan-same (eighths_costs input ref place) nothing (eighths_cost input ref place)
      (λ v u. (let q : 0 + total (eighths_costs input ref place v u) ≡ total (eighths_costs input ref place v u) = omega arith in q) ∙ total-eighths_costs input ref place v u)
      1 step t.best.dy t.best.dx t

  pub refined-same : (v u : ℤ) → (refined_early input ref place v u).best ≡ refined input ref place v u
  unfolding refined_early refined
  refined-same v u =
      let start = begun (eighths_costs input ref place) v u in
      let by_4 = eighths_step_early input ref place 4 start in
      let by_2 = eighths_step_early input ref place 2 by_4 in
      eighths_step-same 1 by_2
      ∙ ap (eighths_step input ref place 1)
      (eighths_step-same 2 by_4
      ∙ ap (eighths_step input ref place 2)
      (eighths_step-same 4 start
      ∙ ap (λ (c : ℕ). eighths_step input ref place 4 (record { cost = c; dy = v; dx = u })) (total-eighths_costs input ref place v u)))

  -- full pel, then eighths
  pub fine-same : (cy cx : ℤ) →
      (fine_early input ref place cy cx).best ≡ refined input ref place (pos 8 *ℤ (full_pel input ref place cy cx).dy) (pos 8 *ℤ (full_pel input ref place cy cx).dx)
  unfolding fine_early
  fine-same cy cx =
      let full = full_pel_early input ref place cy cx in
      refined-same (pos 8 *ℤ full.best.dy) (pos 8 *ℤ full.best.dx)
      ∙ ap (λ (f : Found). refined input ref place (pos 8 *ℤ f.dy) (pos 8 *ℤ f.dx)) (full_pel-same cy cx)

-- the candidates before the k-th, the middle one left out
abbrev others : ℕ → ℕ → ℕ
others middle k = min k middle + (k - suc middle)

-- rows added since `rows`: at least one and at most n for each candidate
pub record Adds (n candidates rows new : ℕ) : Type 0 where
  pub least : rows + candidates ≤ new
  pub most : new ≤ rows + n * candidates

module _ (costs : ℤ → ℤ → List ℕ) (offset_cost : ℤ → ℤ → ℕ) (n : ℕ) (some : 0 < n) (long : (dy dx : ℤ) → length (costs dy dx) ≡ n) where
  ended-counts : (best offset : ℕ) (dy dx : ℤ) → Adds n 1 0 (ended best offset 0 (costs dy dx)).rows
  ended-counts best offset dy dx =
      let e = long dy dx in
      let few : (ended best offset 0 (costs dy dx)).rows ≤ 0 + length (costs dy dx) = (early best offset 0 (costs dy dx)).few in
      record { least = ended-adds best offset 0 (costs dy dx) (omega arith); most = omega arith }

  consider-counts : (reach step : ℕ) (cy cx : ℤ) (rows k : ℕ) (t : Tally) → Adds n (others (square reach / 2) k) rows t.rows →
      Adds n (others (square reach / 2) (suc k)) rows (consider_early costs offset_cost reach step cy cx k t).rows
  unfolding consider_early
  consider-counts reach step cy cx rows k t a = by (eqb k (square reach / 2)) refl
    where
      by : (b : Bool) → eqb k (square reach / 2) ≡ b → Adds n (others (square reach / 2) (suc k)) rows (consider_early costs offset_cost reach step cy cx k t).rows
      by true e =
          let q : others (square reach / 2) (suc k) ≡ others (square reach / 2) k = (let g = eqb-true k (square reach / 2) e in omega arith) in
          rw (e, q) (record { least = a.least; most = a.most })
      by false e =
          let ne = eqb-false k (square reach / 2) e in
          let q : others (square reach / 2) (suc k) ≡ others (square reach / 2) k + 1 = omega arith in
          let c = ended-counts t.best.cost (offset_cost (row_offset reach step cy k) (column_offset reach step cx k)) (row_offset reach step cy k) (column_offset reach step cx k) in
          let least = a.least in
          let most = a.most in
          let c1 = c.least in
          let c2 = c.most in
          rw (e, q) (record { least = omega arith; most = omega arith })

  scan-counts : (reach step : ℕ) (cy cx : ℤ) (t : Tally) → Adds n (others (square reach / 2) (square reach)) t.rows (scan_early costs offset_cost reach step cy cx t).rows
  unfolding scan_early
  scan-counts reach step cy cx t =
      run-keeps (consider_early costs offset_cost reach step cy cx) (λ k u. Adds n (others (square reach / 2) k) t.rows u.rows) 0 (square reach) t (omega arith)
      (λ k u l a. consider-counts reach step cy cx t.rows k u a)
      (record { least = omega arith; most = omega arith })

module _ (input ref : List ℕ) (place : Place) where
  long : (n : ℕ) (dy dx : ℤ) → length (row_costs n input ref place dy dx) ≡ n
  unfolding row_costs
  long n dy dx = length-listing (λ i. row_cost n input ref (down place i) dy dx) n

  long-eighths : (v u : ℤ) → length (eighths_costs input ref place v u) ≡ 16
  unfolding eighths_costs
  long-eighths v u = length-listing (λ i. bilinear_row_cost 16 input ref (down place i) (whole v) (whole u) (fraction v) (fraction u)) 16

  coarse-counts : Adds 8 624 (length (row_costs 8 input ref place (pos 0) (pos 0))) (coarse_early input ref place).rows
  unfolding coarse_early
  coarse-counts =
      scan-counts (row_costs 8 input ref place) magnitudes 8 (omega arith) (long 8) 12 1 (pos 0) (pos 0) (begun (row_costs 8 input ref place) (pos 0) (pos 0))

  full_pel-counts : (cy cx : ℤ) → Adds 16 48 (length (row_costs 16 input ref place cy cx)) (full_pel_early input ref place cy cx).rows
  unfolding full_pel_early
  full_pel-counts cy cx = scan-counts (row_costs 16 input ref place) magnitudes 16 (omega arith) (long 16) 3 1 cy cx (begun (row_costs 16 input ref place) cy cx)

  -- 8 rows of the start, and 624 others
  pub coarse-rows : Adds 8 624 8 (coarse_early input ref place).rows
  coarse-rows = subst (λ (n : ℕ). Adds 8 624 n (coarse_early input ref place).rows) (long 8 (pos 0) (pos 0)) coarse-counts

  -- 16 rows of the start, and 48 others
  pub full_pel-rows : (cy cx : ℤ) → Adds 16 48 16 (full_pel_early input ref place cy cx).rows
  full_pel-rows cy cx = subst (λ (n : ℕ). Adds 16 48 n (full_pel_early input ref place cy cx).rows) (long 16 cy cx) (full_pel-counts cy cx)

  step-rows : (step : ℕ) (t : Tally) → Adds 16 8 t.rows (eighths_step_early input ref place step t).rows
  unfolding eighths_step_early
  step-rows step t = scan-counts (eighths_costs input ref place) nothing 16 (omega arith) long-eighths 1 step t.best.dy t.best.dx t

  -- 16 rows of the start, and three times 8 others
  pub refined-rows : (v u : ℤ) → Adds 16 24 16 (refined_early input ref place v u).rows
  unfolding refined_early
  refined-rows v u =
      let start = begun (eighths_costs input ref place) v u in
      let by_4 = eighths_step_early input ref place 4 start in
      let by_2 = eighths_step_early input ref place 2 by_4 in
      let by-1 = eighths_step_early input ref place 1 by_2 in
      let e : start.rows ≡ 16 = long-eighths v u in
      let a4 = step-rows 4 start in
      let a2 = step-rows 2 by_4 in
      let a1 = step-rows 1 by_2 in
      let l4 : start.rows + 8 ≤ by_4.rows = a4.least in
      let l2 : by_4.rows + 8 ≤ by_2.rows = a2.least in
      let l1 : by_2.rows + 8 ≤ by-1.rows = a1.least in
      let m4 : by_4.rows ≤ start.rows + 128 = a4.most in
      let m2 : by_2.rows ≤ by_4.rows + 128 = a2.most in
      let m1 : by-1.rows ≤ by_2.rows + 128 = a1.most in
      record { least = omega arith; most = omega arith }

  -- both stages on the planes
  pub fine-rows : (cy cx : ℤ) → Adds 16 72 32 (fine_early input ref place cy cx).rows
  unfolding fine_early
  fine-rows cy cx =
      let full = full_pel_early input ref place cy cx in
      let last = refined_early input ref place (pos 8 *ℤ full.best.dy) (pos 8 *ℤ full.best.dx) in
      let a = full_pel-rows cy cx in
      let b = refined-rows (pos 8 *ℤ full.best.dy) (pos 8 *ℤ full.best.dx) in
      let la : 16 + 48 ≤ full.rows = a.least in
      let ma : full.rows ≤ 16 + 16 * 48 = a.most in
      let lb : 16 + 24 ≤ last.rows = b.least in
      let mb : last.rows ≤ 16 + 16 * 24 = b.most in
      record { least = omega arith; most = omega arith }
