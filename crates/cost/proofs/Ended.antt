-- A sum that ends early is below the best exactly if the whole one is, and then they are equal: no cost is below 0, so what reached the best stays there.
-- Assumes nothing.
use Prim.Native.Nat.{ℕ, zero, suc, ◌+◌, ◌*◌, ◌≤◌, ◌<◌}
use mathlib.Core.Bool.{Bool, true, false}
use mathlib.Core.List.{List, [], ◌∷◌, ◌++◌}
use mathlib.Core.Path.{◌≡◌, refl, sym, ap, ◌∙◌}
use native.Mathlib.Nat.{mul-le-mul_left}
use native.Mathlib.Numerals.{add-one}
use native.Mathlib.Omega.{arith}
use lib.Dec.{ltb}
use lib.ListN.{length, drop, drop_of_length-le}
use lib.Seq.{drop-cons}
use borrow.Author.Tests.{ltb-true, ltb-false, lt-ltb, le-ltb}
use Rattle.laws.specs.Loops.{sum}
use Rattle.laws.specs.Parts.{listing}
use Rattle.laws.proofs.Filling.{length-listing}
use Rattle.plane.proofs.Listing.{get_d-listing}
use Rattle.cost.specs.declared.Added.{Added}
use Rattle.cost.specs.Ended.{total, added, ended}
use Rattle.cost.specs.Inner.{Sums}

-- what an ended sum has to do with the whole one, of n rows
pub record Early (best whole rows n : ℕ) (e : Added) : Type 0 where
  pub below : e.cost < best → whole < best
  pub same : whole < best → e ≡ added whole (rows + n)
  pub few : e.rows ≤ rows + n

added-same : {a b c d : ℕ} → a ≡ b → c ≡ d → added a c ≡ added b d
added-same p q = rw (p, q)

-- any list of costs, any offset, any best
pub early : (best offset rows : ℕ) (l : List ℕ) → Early best (offset + total l) rows (length l) (ended best offset rows l)
early best offset rows [] =
    record {
      below = λ h. omega arith;
      same = λ h. added-same (omega arith) (omega arith);
      few = omega arith;
    }
early best offset rows (c ∷ l) = by (ltb (offset + c) best) refl (early best (offset + c) (rows + 1) l)
  where
    by : (t : Bool) → ltb (offset + c) best ≡ t → Early best (offset + c + total l) (rows + 1) (length l) (ended best (offset + c) (rows + 1) l) →
        Early best (offset + (c + total l)) rows (suc (length l)) (ended best offset rows (c ∷ l))
    by true e r =
        rw e
        (record {
          below = λ h. let k = r.below h in omega arith;
          same = λ h. r.same (omega arith) ∙ added-same (omega arith) (omega arith);
          few = let k = r.few in omega arith;
        })
    by false e r =
        let g = ltb-false (offset + c) best e in
        rw e (record { below = λ h. absurd (omega arith); same = λ h. absurd (omega arith); few = omega arith })

-- an ended sum wins exactly if the whole one does
pub early-test : (best offset : ℕ) (l : List ℕ) → ltb (ended best offset 0 l).cost best ≡ ltb (offset + total l) best
early-test best offset l = by (ltb (offset + total l) best) (ltb (ended best offset 0 l).cost best) refl refl
  where
    by : (t u : Bool) → ltb (offset + total l) best ≡ t → ltb (ended best offset 0 l).cost best ≡ u → u ≡ t
    by true true e f = refl
    by false false e f = refl
    by true false e f =
        let s = (early best offset 0 l).same (ltb-true (offset + total l) best e) in
        sym f ∙ (ap (λ (a : Added). ltb a.cost best) s ∙ e)
    by false true e f = sym (sym e ∙ lt-ltb (offset + total l) best ((early best offset 0 l).below (ltb-true (ended best offset 0 l).cost best f)))

-- a sum that didn't reach the best is whole
pub ended-whole : (best offset rows : ℕ) (l : List ℕ) → (ended best offset rows l).cost < best → ended best offset rows l ≡ added (offset + total l) (rows + length l)
ended-whole best offset rows l h = (early best offset rows l).same ((early best offset rows l).below h)

-- each candidate adds a row at least
ended-more : (best cost rows : ℕ) (l : List ℕ) → rows ≤ (ended best cost rows l).rows
ended-more best cost rows [] = omega arith
ended-more best cost rows (c ∷ l) = by (ltb (cost + c) best) refl (ended-more best (cost + c) (rows + 1) l)
  where
    by : (t : Bool) → ltb (cost + c) best ≡ t → rows + 1 ≤ (ended best (cost + c) (rows + 1) l).rows → rows ≤ (ended best cost rows (c ∷ l)).rows
    by true e r = rw e (omega arith)
    by false e r = rw e (omega arith)

pub ended-adds : (best offset rows : ℕ) (l : List ℕ) → 0 < length l → rows + 1 ≤ (ended best offset rows l).rows
ended-adds best offset rows [] h = absurd (omega arith)
ended-adds best offset rows (c ∷ l) h = by (ltb (offset + c) best) refl
  where
    by : (t : Bool) → ltb (offset + c) best ≡ t → rows + 1 ≤ (ended best offset rows (c ∷ l)).rows
    by true e = rw e (ended-more best (offset + c) (rows + 1) l)
    by false e = rw e (omega arith)

-- a sum by index is the whole sum of its list
total-snoc : (l : List ℕ) (x : ℕ) → total (l ++ (x ∷ [])) ≡ total l + x
total-snoc [] x = omega arith
total-snoc (c ∷ l) x = rw (total-snoc l x) (omega arith)

pub total-listing : (f : ℕ → ℕ) (n : ℕ) → total (listing f n) ≡ sum f n
total-listing f zero = refl
total-listing f (suc n) = total-snoc (listing f n) (f n) ∙ ap (λ (k : ℕ). k + f n) (total-listing f n)

-- what a loop over rows keeps: after i of n rows as much is left as from the start, and each row costs at most b
pub record Left (best start : ℕ) (f : ℕ → ℕ) (n b i cost : ℕ) : Type 0 where
  pub within : i ≤ n
  pub left : ended best cost i (drop i (listing f n)) ≡ ended best start 0 (listing f n)
  pub small : cost ≤ start + b * i

pub row_next : (f : ℕ → ℕ) (n i d : ℕ) → i < n → d ≡ f i → drop i (listing f n) ≡ d ∷ drop (i + 1) (listing f n)
row_next f n i d l e =
    rw (add-one i)
    (drop-cons (listing f n) i 0 (rw (length-listing f n) l) ∙ ap (λ (k : ℕ). k ∷ drop (suc i) (listing f n)) (get_d-listing f n i 0 l ∙ sym e))

pub first : (best start : ℕ) (f : ℕ → ℕ) (n b : ℕ) → Left best start f n b 0 start
first best start f n b = record { within = omega arith; left = refl; small = omega arith }

-- a row that leaves the sum below the best
pub next : {best start : ℕ} {f : ℕ → ℕ} {n b i cost d : ℕ} → Left best start f n b i cost → i < n → d ≡ f i → d ≤ b → cost + d < best →
    Left best start f n b (i + 1) (cost + d)
next {best} {start} {f} {n} {b} {i} {cost} {d} a l e m h =
    let left : ended best cost i (d ∷ drop (i + 1) (listing f n)) ≡ ended best start 0 (listing f n) =
    ap (ended best cost i) (sym (row_next f n i d l e)) ∙ a.left in
    record { within = omega arith; left = rw (lt-ltb (cost + d) best h) at left; small = omega (arith, a.small) }

-- a row that brings it to the best or above
pub stops : {best start : ℕ} {f : ℕ → ℕ} {n b i cost d : ℕ} → Left best start f n b i cost → i < n → d ≡ f i → d ≤ b → best ≤ cost + d → start + b * n ≤ 16777472 →
    Sums n (ended best start 0 (listing f n)) (added (cost + d) (i + 1))
stops {best} {start} {f} {n} {b} {i} {cost} {d} a l e m h k =
    let left : ended best cost i (d ∷ drop (i + 1) (listing f n)) ≡ ended best start 0 (listing f n) =
    ap (ended best cost i) (sym (row_next f n i d l e)) ∙ a.left in
    let most : b * (i + 1) ≤ b * n = mul-le-mul_left b (let q : i + 1 ≤ n = omega arith in q) in
    record { same = rw (le-ltb (cost + d) best h) at left; few = omega arith; small = omega (arith, a.small) }

-- every row was added
pub all : {best start : ℕ} {f : ℕ → ℕ} {n b i cost : ℕ} → Left best start f n b i cost → n ≤ i → start + b * n ≤ 16777472 →
    Sums n (ended best start 0 (listing f n)) (added cost n)
all {best} {start} {f} {n} {b} {i} {cost} a l k =
    let e : i ≡ n = omega (arith, a.within) in
    let most : b * i ≤ b * n = mul-le-mul_left b a.within in
    let left : ended best cost i [] ≡ ended best start 0 (listing f n) =
    ap (ended best cost i) (sym (drop_of_length-le (listing f n) {i = i} (rw (length-listing f n) l))) ∙ a.left in
    record { same = ap (added cost) (sym e) ∙ left; few = omega arith; small = omega (arith, a.small) }
