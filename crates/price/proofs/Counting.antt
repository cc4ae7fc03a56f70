-- Counting: equal tests count alike, a range counts as its parts, and a one-to-one renaming of what is counted changes no count.
-- Assumes nothing.
use Prim.Native.Nat.{ℕ, zero, suc, ◌+◌, ◌-◌, ◌≤◌, ◌<◌}
use mathlib.Core.Bool.{Bool, true, false}
use mathlib.Core.Path.{◌≡◌, refl, sym, ap, ◌∙◌}
use native.Mathlib.Decide.{ℕ_discrete}
use native.Mathlib.Omega.{arith}
use borrow.Author.Tests.{eq-eqb, ne_eqb}
use lib.Dec.{eqb}
use Rattle.laws.specs.Loops.{sum}
use Rattle.laws.specs.Refusal.{choose}
use Rattle.laws.proofs.Loops.{sum_same}
use Rattle.price.specs.Prices.{count_of}

-- a sum of sums, term by term
sum_both : (f g : ℕ → ℕ) (n : ℕ) → sum (λ i. f i + g i) n ≡ sum f n + sum g n
sum_both f g zero = refl
sum_both f g (suc n) = rw (sum_both f g n) (omega arith)

sum-nought : (n : ℕ) → sum (λ i. 0) n ≡ 0
sum-nought zero = refl
sum-nought (suc n) = rw (sum-nought n)

-- rows first or columns first
sum-swap : (f : ℕ → ℕ → ℕ) (n m : ℕ) → sum (λ i. sum (f i) m) n ≡ sum (λ j. sum (λ i. f i j) n) m
sum-swap f zero m = sym (sum-nought m)
sum-swap f (suc n) m = rw (sum-swap f n m) (sym (sum_both (λ j. sum (λ i. f i j) n) (f n) m))

-- one term of a sum
pub sum-none : (f : ℕ → ℕ) (n : ℕ) → ((i : ℕ) → i < n → f i ≡ 0) → sum f n ≡ 0
sum-none f n h = sum_same f (λ i. 0) n h ∙ sum-nought n

pub sum_one : (f : ℕ → ℕ) (n k : ℕ) → k < n → ((i : ℕ) → i < n → (i ≡ k → ⊥) → f i ≡ 0) → sum f n ≡ f k
sum_one f zero k l h = absurd (omega arith)
sum_one f (suc n) k l h =
    elim (ℕ_discrete k n) [
      | yes e ↦
          let z : sum f n ≡ 0 = sum-none f n (λ i b. h i (omega arith) (λ s. omega arith)) in
          rw (z, e) (omega arith)
      | no ne ↦
          let z : f n ≡ 0 = h n (omega arith) (λ s. ne (sym s)) in
          let r : sum f n ≡ f k = sum_one f n k (omega arith) (λ i b d. h i (omega arith) d) in
          rw (r, z) (omega arith)
    ]

pub count_same : (p q : ℕ → Bool) (n : ℕ) → ((i : ℕ) → i < n → p i ≡ q i) → count_of p n ≡ count_of q n
count_same p q n h = sum_same _ _ n (λ i l. ap (λ (b : Bool). choose b 1 0) (h i l))

-- the first a, and those behind
pub count-parts : (p : ℕ → Bool) (a n : ℕ) → count_of p (a + n) ≡ count_of p a + count_of (λ i. p (a + i)) n
count-parts p a zero = let e : a + 0 ≡ a = omega arith in rw e (omega arith)
count-parts p a (suc n) = let e : a + suc n ≡ suc (a + n) = omega arith in rw (e, count-parts p a n) (omega arith)

-- a test with one answer
pub count-alike : (p : ℕ → Bool) (b : Bool) (n : ℕ) → ((i : ℕ) → i < n → p i ≡ b) → count_of p n ≡ choose b n 0
count-alike p true zero h = refl
count-alike p false zero h = refl
count-alike p true (suc n) h = rw (count-alike p true n (λ i l. h i (omega arith)), h n (omega arith)) (omega arith)
count-alike p false (suc n) h = rw (count-alike p false n (λ i l. h i (omega arith)), h n (omega arith))

-- f renames 0 .. n - 1, and g takes the names back
pub record Renames (f g : ℕ → ℕ) (n : ℕ) : Type 0 where
  pub within : (i : ℕ) → i < n → f i < n
  pub taken_back : (i : ℕ) → i < n → g (f i) ≡ i
  pub back_within : (k : ℕ) → k < n → g k < n
  pub named : (k : ℕ) → k < n → f (g k) ≡ k

module _ (f g : ℕ → ℕ) (n : ℕ) (r : Renames f g n) (p : ℕ → Bool) where
  -- what i adds to the count of the name k
  abbrev share : ℕ → ℕ → ℕ
  share i k = choose (eqb (f i) k) (choose (p k) 1 0) 0

  by_name : (i : ℕ) → i < n → choose (p (f i)) 1 0 ≡ sum (share i) n
  by_name i l =
      sym (sum_one (share i) n (f i) (r.within i l) (λ k b d. rw (ne_eqb (f i) k (λ e. d (sym e))))
      ∙ (let s : eqb (f i) (f i) ≡ true = eq-eqb (f i) (f i) refl in rw s))

  by_place : (k : ℕ) → k < n → sum (λ i. share i k) n ≡ choose (p k) 1 0
  by_place k l =
      sum_one (λ i. share i k) n (g k) (r.back_within k l)
      (λ i b d. rw (ne_eqb (f i) k (λ e. d (sym (r.taken_back i b) ∙ ap g e))))
      ∙ (let s : eqb (f (g k)) k ≡ true = eq-eqb (f (g k)) k (r.named k l) in rw s)

  pub count-renamed : count_of (λ i. p (f i)) n ≡ count_of p n
  count-renamed = sum_same _ _ n by_name ∙ sum-swap share n n ∙ sum_same _ _ n by_place

sum_ones : (n : ℕ) → sum (λ i. 1) n ≡ n
sum_ones zero = refl
sum_ones (suc n) = rw (sum_ones n) (omega arith)

-- each of n has one of m values: the counts of the values sum to n
pub counts-sum : (value : ℕ → ℕ) (from m n : ℕ) → ((t : ℕ) → t < n → (from ≤ value t) × (value t < from + m))
    → sum (λ j. count_of (λ t. eqb (from + j) (value t)) n) m ≡ n
counts-sum value from m n h =
    sym (sum-swap (λ t j. choose (eqb (from + j) (value t)) 1 0) n m) ∙ sum_same _ _ n one ∙ sum_ones n
  where
    one : (t : ℕ) → t < n → sum (λ j. choose (eqb (from + j) (value t)) 1 0) m ≡ 1
    one t l =
        let b = h t l in
        sum_one _ m (value t - from) (omega (arith, b.0, b.1)) (λ j k d. rw (ne_eqb (from + j) (value t) (λ e. d (omega arith))))
        ∙ rw (eq-eqb (from + (value t - from)) (value t) (omega (arith, b.0)))
