-- How many rows a sum adds that ends early: the first, and one for each row before which it is below the best.
-- Assumes nothing.
use Prim.Native.Nat.{ℕ, zero, suc, ◌+◌, ◌-◌, ◌≤◌, ◌<◌}
use mathlib.Core.Bool.{Bool, true, false}
use mathlib.Core.Path.{◌≡◌, refl, ap, subst, ◌∙◌}
use native.Mathlib.Numerals.{add-one}
use native.Mathlib.Omega.{arith}
use lib.Dec.{ltb}
use lib.ListN.{drop, drop_of_length-le}
use borrow.Author.Tests.{ltb-true, ltb-false, lt-ltb, le-ltb}
use Rattle.laws.specs.Loops.{sum}
use Rattle.laws.specs.Parts.{listing}
use Rattle.laws.specs.Refusal.{choose}
use Rattle.laws.proofs.Filling.{length-listing}
use Rattle.cost.specs.Ended.{ended}
use Rattle.cost.proofs.Ended.{early-test, total-listing, row_next}
use Rattle.lanes.specs.Inner.{live}

-- terms that stay at 0
pub sum-stops : (g : ℕ → ℕ) (m d : ℕ) → ((j : ℕ) → m ≤ j → g j ≡ 0) → sum g (m + d) ≡ sum g m
sum-stops g m zero h = ap (sum g) (let q : m + 0 ≡ m = omega arith in q)
sum-stops g m (suc d) h =
    let q : m + suc d ≡ suc (m + d) = omega arith in
    let z : g (m + d) ≡ 0 = h (m + d) (omega arith) in
    let r : sum g (m + d) ≡ sum g m = sum-stops g m d h in
    ap (sum g) q ∙ (let s : sum g (m + d) + g (m + d) ≡ sum g m = omega arith in s)

sum_more : (f : ℕ → ℕ) (i d : ℕ) → sum f i ≤ sum f (i + d)
sum_more f i zero = subst (λ (k : ℕ). sum f i ≤ sum f k) (let q : i ≡ i + 0 = omega arith in q) (omega arith)
sum_more f i (suc d) =
    let r : sum f i ≤ sum f (i + d) = sum_more f i d in
    let s : sum f i ≤ sum f (i + d) + f (i + d) = omega arith in
    subst (λ (k : ℕ). sum f i ≤ sum f k) (let q : suc (i + d) ≡ i + suc d = omega arith in q) s

sum-rises : (f : ℕ → ℕ) (i j : ℕ) → i ≤ j → sum f i ≤ sum f j
sum-rises f i j l = subst (λ (k : ℕ). sum f i ≤ sum f k) (let q : i + (j - i) ≡ j = omega arith in q) (sum_more f i (j - i))

pub sum-noughts : (n : ℕ) → 0 ≡ sum (λ k. 0) n
sum-noughts zero = refl
sum-noughts (suc n) = let r : 0 ≡ sum (λ k. 0) n = sum-noughts n in omega arith

pub sum_ones : (n : ℕ) → n ≡ sum (λ k. 1) n
sum_ones zero = refl
sum_ones (suc n) = let r : n ≡ sum (λ k. 1) n = sum_ones n in omega arith

-- no term is over a sum that is 0
pub sum-zero : (g : ℕ → ℕ) (n k : ℕ) → sum g n ≡ 0 → k < n → g k ≡ 0
sum-zero g zero k e l = absurd (omega arith)
sum-zero g (suc n) k e l = by (ltb k n) refl (sum-zero g n k (omega arith))
  where
    by : (t : Bool) → ltb k n ≡ t → (k < n → g k ≡ 0) → g k ≡ 0
    by true t r = r (ltb-true k n t)
    by false t r =
        let h = ltb-false k n t in
        let q : n ≡ k = omega arith in
        let z : g n ≡ 0 = omega arith in
        subst (λ (j : ℕ). g j ≡ 0) q z

pub sum_both : (f g : ℕ → ℕ) (n : ℕ) → sum f n + sum g n ≡ sum (λ k. f k + g k) n
sum_both f g zero = refl
sum_both f g (suc n) = let r : sum f n + sum g n ≡ sum (λ k. f k + g k) n = sum_both f g n in omega arith

pub live_on : (best cost : ℕ) → cost < best → live best cost ≡ 1
live_on best cost h = rw (lt-ltb cost best h)

pub live-off : (best cost : ℕ) → best ≤ cost → live best cost ≡ 0
live-off best cost h = rw (le-ltb cost best h)

pub live-zero : (best cost : ℕ) → live best cost ≡ 0 → best ≤ cost
live-zero best cost e = by (ltb cost best) refl
  where
    by : (t : Bool) → ltb cost best ≡ t → best ≤ cost
    by true t = absurd (let h = live_on best cost (ltb-true cost best t) in omega (arith, h, e))
    by false t = ltb-false cost best t

-- whether row i is added
abbrev pub goes : ℕ → ℕ → (ℕ → ℕ) → ℕ → ℕ
goes best start f zero = 1
goes best start f (suc i) = live best (start + sum f (suc i))

-- a sum that has reached the best stays there
pub stays-ended : (best start : ℕ) (f : ℕ → ℕ) (i : ℕ) → best ≤ start + sum f (suc i) → (j : ℕ) → suc i ≤ j → goes best start f j ≡ 0
stays-ended best start f i h zero l = absurd (omega arith)
stays-ended best start f i h (suc j) l =
    let r : sum f (suc i) ≤ sum f (suc j) = sum-rises f (suc i) (suc j) l in
    live-off best (start + sum f (suc j)) (omega arith)

module _ (best start : ℕ) (f : ℕ → ℕ) (n : ℕ) where
  pub rows-stop : (i : ℕ) → i < n → best ≤ start + sum f (suc i) → sum (goes best start f) n ≡ sum (goes best start f) (suc i)
  rows-stop i l h =
      let q : n ≡ suc i + (n - suc i) = omega arith in
      ap (sum (goes best start f)) q ∙ sum-stops (goes best start f) (suc i) (n - suc i) (stays-ended best start f i h)

  rows-from : (m i r : ℕ) → i + m ≡ n → goes best start f i ≡ 1 →
      (ended best (start + sum f i) r (drop i (listing f n))).rows + sum (goes best start f) i ≡ r + sum (goes best start f) n
  rows-from zero i r e g =
      let q : i ≡ n = omega arith in
      rw (drop_of_length-le (listing f n) {i = i} (rw (length-listing f n) (omega arith))) (ap (λ (k : ℕ). r + sum (goes best start f) k) q)
  rows-from (suc m) i r e g = by (ltb (start + sum f i + f i) best) refl (rows-from m (suc i) (r + 1) (omega arith))
    where
      by : (t : Bool) → ltb (start + sum f i + f i) best ≡ t →
          (goes best start f (suc i) ≡ 1 → (ended best (start + sum f (suc i)) (r + 1) (drop (suc i) (listing f n))).rows + sum (goes best start f) (suc i) ≡ r + 1 + sum (goes best start f) n) →
          (ended best (start + sum f i) r (drop i (listing f n))).rows + sum (goes best start f) i ≡ r + sum (goes best start f) n
      by true t next =
          let h = ltb-true (start + sum f i + f i) best t in
          let s : start + sum f i + f i ≡ start + sum f (suc i) = omega arith in
          let q = next (live_on best (start + sum f (suc i)) (omega arith)) in
          rw (row_next f n i (f i) (omega arith) refl, t, add-one i, s) (omega (arith, q, g))
      by false t next =
          let h = ltb-false (start + sum f i + f i) best t in
          let q = rows-stop i (omega arith) (omega arith) in
          rw (row_next f n i (f i) (omega arith) refl, t) (omega (arith, q, g))

  pub ended-rows : (ended best start 0 (listing f n)).rows ≡ sum (goes best start f) n
  ended-rows =
      let z : start ≡ start + 0 = omega arith in
      let q = rows-from n 0 0 (omega arith) refl in
      ap (λ (s : ℕ). (ended best s 0 (listing f n)).rows) z ∙ omega (arith, q)

-- after the last row it is below the best exactly if the ended sum is
pub ended-live : (best start : ℕ) (f : ℕ → ℕ) (n : ℕ) → 0 < n → live best (ended best start 0 (listing f n)).cost ≡ goes best start f n
ended-live best start f zero l = absurd (omega arith)
ended-live best start f (suc n) l =
    ap (λ (t : Bool). choose t 1 0)
    (early-test best start (listing f (suc n)) ∙ ap (λ (k : ℕ). ltb (start + k) best) (total-listing f (suc n)))
