-- Loops over candidates: what is left of the turns leads from the best so far to where all lead from the start.
-- Assumes nothing.
use Prim.Native.Nat.{ℕ, zero, suc, ◌+◌, ◌*◌, ◌-◌, ◌/◌, ◌%◌, ◌≤◌, ◌<◌}
use mathlib.Core.Bool.{Bool, true, false}
use mathlib.Core.List.{List}
use mathlib.Core.Path.{◌≡◌, refl, sym, ap, subst, ◌∙◌}
use native.Mathlib.Omega.{arith}
use lib.Dec.{ltb, eqb}
use lib.ListN.{length}
use borrow.Author.Tests.{eq-eqb, ne_eqb}
use Rattle.laws.specs.Loops.{run, turns}
use Rattle.laws.specs.Refusal.{choose}
use Rattle.laws.proofs.Loops.{again, done}
use Rattle.plane.specs.declared.Offset.{Offset}
use Rattle.cost.specs.declared.Added.{Added}
use Rattle.cost.specs.Ended.{total, added, ended}
use Rattle.cost.specs.Inner.{window_costs, bilinear_window_costs, Sums}
use Rattle.cost.proofs.Ended.{ended-whole}
use Rattle.stage.specs.declared.Best.{Best}
use Rattle.stage.specs.Stage.{square}
use Rattle.stage.specs.Inner.{replaced, start_of, turn, at, magnitudes_of, coarse_motion, coarse_turn, full_motion, full_turn, step_motion, step_turn, Next, Lies}

module _ {S : Type 0} where
  -- what each turn keeps, the run keeps
  turns-keep : (f : ℕ → S → S) (P : ℕ → S → Type 0) (n i k : ℕ) (s : S) → i + k ≡ n → ((j : ℕ) (t : S) → j < n → P j t → P (suc j) (f j t)) → P i s → P n (turns f k i s)
  turns-keep f P n i zero s e h p = subst (λ (m : ℕ). P m s) (let q : i ≡ n = omega arith in q) p
  turns-keep f P n i (suc k) s e h p = turns-keep f P n (suc i) k (f i s) (omega arith) h (h i s (omega arith) p)

  pub run-keeps : (f : ℕ → S → S) (P : ℕ → S → Type 0) (i n : ℕ) (s : S) → i ≤ n → ((j : ℕ) (t : S) → j < n → P j t → P (suc j) (f j t)) → P i s → P n (run f i n s)
  unfolding run
  run-keeps f P i n s l h p = turns-keep f P n i (n - i) s (omega arith) h p

  turns-split : (f : ℕ → S → S) (a b i : ℕ) (s : S) → turns f (a + b) i s ≡ turns f b (i + a) (turns f a i s)
  turns-split f zero b i s = rw ((let q : i + 0 ≡ i = omega arith in q), (let q : 0 + b ≡ b = omega arith in q)) refl
  turns-split f (suc a) b i s =
      ap (λ (k : ℕ). turns f k i s) (let q : suc a + b ≡ suc (a + b) = omega arith in q)
      ∙ (turns-split f a b (suc i) (f i s) ∙ ap (λ (k : ℕ). turns f b k (turns f a (suc i) (f i s))) (let q : suc i + a ≡ i + suc a = omega arith in q))

  -- the turns before the m-th, then the others: nested loops are one loop
  pub run-split : (f : ℕ → S → S) (i m n : ℕ) (s : S) → i ≤ m → m ≤ n → run f i n s ≡ run f m n (run f i m s)
  unfolding run
  run-split f i m n s l g =
      ap (λ (k : ℕ). turns f k i s) (let q : n - i ≡ (m - i) + (n - m) = omega arith in q)
      ∙ (turns-split f (m - i) (n - m) i s ∙ ap (λ (k : ℕ). turns f (n - m) k (turns f (m - i) i s)) (let q : i + (m - i) ≡ m = omega arith in q))

  -- the turns from the k-th on lead from `s` to where those from the first lead from `start`
  pub record Turns (f : ℕ → S → S) (first n : ℕ) (start : S) (k : ℕ) (s : S) : Type 0 where
    pub within : k ≤ n
    pub left : run f k n s ≡ run f first n start

  pub begins : (f : ℕ → S → S) (first n k : ℕ) (start : S) → k ≡ first → first ≤ n → Turns f first n start k start
  begins f first n k start e l = rw e (record { within = l; left = refl })

  pub goes_on : {f : ℕ → S → S} {first n k : ℕ} (m : ℕ) {start s next : S} → Turns f first n start k s → k < n → m ≡ k + 1 → next ≡ f k s → Turns f first n start m next
  goes_on {f} m t l e q = rw e (record { within = omega arith; left = again f l q t.left })

  pub goes-far : {f : ℕ → S → S} {first n k : ℕ} (m : ℕ) {start s next : S} → Turns f first n start k s → k ≤ m → m ≤ n → next ≡ run f k m s → Turns f first n start m next
  goes-far {f} {first} {n} {k} m {start} {s} t l g q = record { within = g; left = rw q (sym (run-split f k m n s l g) ∙ t.left) }

  pub ends : {f : ℕ → S → S} {first n k : ℕ} {start s : S} → Turns f first n start k s → n ≤ k → s ≡ run f first n start
  ends {f} t l = done f l t.left

-- the rows count anyway
rows-either : (t : Bool) (a b : Best) (n : ℕ) → a.rows ≡ n → b.rows ≡ n → (choose t a b).rows ≡ n
rows-either true a b n p q = p
rows-either false a b n p q = q

replaced-rows : (best : Best) (new : Added) (by : Offset) → (replaced best new by).rows ≡ best.rows + new.rows
replaced-rows best new by =
    rows-either (ltb new.cost best.cost) (record { cost = new.cost; y = by.y; x = by.x; rows = best.rows + new.rows })
    (record { cost = best.cost; y = best.y; x = best.x; rows = best.rows + new.rows }) (best.rows + new.rows) refl refl

-- one candidate
module _ (costs : ℕ → List ℕ) (offset_cost : ℕ → ℕ) (motion : ℕ → Offset) (reach : ℕ) where
  pub turn-middle : (k : ℕ) (best : Best) → k ≡ square reach / 2 → best ≡ turn costs offset_cost motion reach k best
  unfolding turn
  turn-middle k best e = rw (eq-eqb k (square reach / 2) e)

  pub turn-stays : (n k : ℕ) (best : Best) → k ≡ square reach / 2 → Next n best.rows (turn costs offset_cost motion reach k best) best
  turn-stays n k best e = record { same = turn-middle k best e; few = omega arith }

  pub turn-next : (n k : ℕ) (best : Best) {start : ℕ} {new : Added} {by : Offset} {s : Best} → (k ≡ square reach / 2 → ⊥) → start ≡ offset_cost k →
      Sums n (ended best.cost start 0 (costs k)) new → by ≡ motion k → s ≡ replaced best new by → Next n best.rows (turn costs offset_cost motion reach k best) s
  unfolding turn
  turn-next n k best {start} {new} {by} {s} ne p sums q r =
      let more : new.rows ≤ n = sums.few in
      let rows : s.rows ≡ best.rows + new.rows = ap (λ (b : Best). b.rows) r ∙ replaced-rows best new by in
      record {
        same = r ∙ (ap (λ (a : Added). replaced best a by) sums.same ∙ rw (ne_eqb k (square reach / 2) ne, p, q) refl);
        few = omega arith;
      }

  turn-lies : (R cy cx k : ℕ) (best : Best) → Lies R cy cx (motion k).y (motion k).x → Lies R cy cx best.y best.x →
      Lies R cy cx (turn costs offset_cost motion reach k best).y (turn costs offset_cost motion reach k best).x
  unfolding turn
  turn-lies R cy cx k best new old = by (eqb k (square reach / 2)) (ltb (ended best.cost (offset_cost k) 0 (costs k)).cost best.cost) refl refl
    where
      by : (t u : Bool) → eqb k (square reach / 2) ≡ t → ltb (ended best.cost (offset_cost k) 0 (costs k)).cost best.cost ≡ u →
          Lies R cy cx (turn costs offset_cost motion reach k best).y (turn costs offset_cost motion reach k best).x
      by true u e f = rw e old
      by false true e f = rw (e, f) new
      by false false e f = rw (e, f) old

  -- the best of the candidates lies where they do
  pub run_lies : (R cy cx n : ℕ) (start : Best) → ((k : ℕ) → k < n → Lies R cy cx (motion k).y (motion k).x) → Lies R cy cx start.y start.x →
      Lies R cy cx (run (turn costs offset_cost motion reach) 0 n start).y (run (turn costs offset_cost motion reach) 0 n start).x
  run_lies R cy cx n start h s =
      run-keeps (turn costs offset_cost motion reach) (λ k b. Lies R cy cx b.y b.x) 0 n start (omega arith)
      (λ j t l p. turn-lies R cy cx j t (h j l) p) s

-- the candidates of each stage
module _ (block window : List ℕ) (best : Best) where
  pub coarse-stays : (y x : ℕ) → y * 25 + x ≡ 312 → Next 8 best.rows (coarse_turn block window (y * 25 + x) best) best
  coarse-stays y x e =
      turn-stays (λ k. window_costs 8 32 block window (k / 25) (k % 25)) (λ k. magnitudes_of 12 (coarse_motion k)) coarse_motion 12 8 (y * 25 + x) best e

  -- at row y, column x of the square
  pub coarse-next : (y x : ℕ) {start : ℕ} {new : Added} {s : Best} → x < 25 → (y * 25 + x ≡ 312 → ⊥) → start ≡ magnitudes_of 12 (at y x) →
      Sums 8 (ended best.cost start 0 (window_costs 8 32 block window y x)) new → s ≡ replaced best new (at y x) →
      Next 8 best.rows (coarse_turn block window (y * 25 + x) best) s
  coarse-next y x {start} {new} l ne e sums r =
      let p : (y * 25 + x) / 25 ≡ y = omega arith in
      let q : (y * 25 + x) % 25 ≡ x = omega arith in
      turn-next (λ k. window_costs 8 32 block window (k / 25) (k % 25)) (λ k. magnitudes_of 12 (coarse_motion k)) coarse_motion 12 8 (y * 25 + x) best ne
      (e ∙ rw (p, q) refl)
      (rw (p, q) sums)
      (rw (p, q) refl)
      r

  pub full-stays : (centre : Offset) (k : ℕ) → k ≡ 24 → Next 16 best.rows (full_turn centre block window k best) best
  full-stays centre k e =
      turn-stays (λ i. window_costs 16 24 block window (i / 7 + 1) (i % 7 + 1)) (λ i. magnitudes_of 27 (full_motion centre i)) (full_motion centre) 3 16 k best e

  pub full-next : (centre : Offset) (k : ℕ) {start : ℕ} {new : Added} {s : Best} → (k ≡ 24 → ⊥) → start ≡ magnitudes_of 27 (full_motion centre k) →
      Sums 16 (ended best.cost start 0 (window_costs 16 24 block window (k / 7 + 1) (k % 7 + 1))) new → s ≡ replaced best new (full_motion centre k) →
      Next 16 best.rows (full_turn centre block window k best) s
  full-next centre k ne e sums r =
      turn-next (λ i. window_costs 16 24 block window (i / 7 + 1) (i % 7 + 1)) (λ i. magnitudes_of 27 (full_motion centre i)) (full_motion centre) 3 16 k best ne e sums refl r

  pub step_stays : (corner centre : Offset) (step k : ℕ) → k ≡ 4 → Next 16 best.rows (step_turn corner centre step block window k best) best
  step_stays corner centre step k e =
      turn-stays (λ i. bilinear_window_costs block window corner (step_motion centre step i)) (λ i. 0) (step_motion centre step) 1 16 k best e

  pub step-next : (corner centre : Offset) (step k : ℕ) {new : Added} {s : Best} → (k ≡ 4 → ⊥) →
      Sums 16 (ended best.cost 0 0 (bilinear_window_costs block window corner (step_motion centre step k))) new → s ≡ replaced best new (step_motion centre step k) →
      Next 16 best.rows (step_turn corner centre step block window k best) s
  step-next corner centre step k ne sums r =
      turn-next (λ i. bilinear_window_costs block window corner (step_motion centre step i)) (λ i. 0) (step_motion centre step) 1 16 k best ne refl sums refl r

-- a sum with no best to reach is whole
pub start-whole : (l : List ℕ) (n y x : ℕ) {r : Added} → Sums n (ended 4294967295 0 0 l) r → record { cost = r.cost; y = y; x = x; rows = r.rows } ≡ start_of l y x
start-whole l n y x {r} s =
    let small : r.cost ≤ 16777472 = s.small in
    let e : (ended 4294967295 0 0 l).cost ≡ r.cost = ap (λ (a : Added). a.cost) (sym s.same) in
    let w : r ≡ added (0 + total l) (0 + length l) = s.same ∙ ended-whole 4294967295 0 0 l (omega arith) in
    rw (w, (let q : 0 + total l ≡ total l = omega arith in q), (let q : 0 + length l ≡ length l = omega arith in q)) refl
