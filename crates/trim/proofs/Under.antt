-- The samples under a limit: all of them before there is a square, and under infinity; under the cutoff's limit those that are kept. A loop with the test folds them.
-- Assumes nothing.
use Prim.Native.Nat.{ℕ, ◌+◌, ◌≤◌, ◌<◌}
use mathlib.Core.Bool.{Bool, true, false}
use mathlib.Core.List.{List, [], ◌∷◌}
use mathlib.Core.Path.{◌≡◌, refl, sym, ap, subst, ◌∙◌}
use native.Mathlib.Omega.{arith}
use borrow.Author.Tests.{le-ltb}
use lib.Dec.{T}
use lib.ListN.{length, take, drop, get_or, replicate, length-append, length-drop, length-map, get_or-replicate, get_or-append}
use lib.Seq.{take_at}
use lib.Ieee.{Float, nan, inf, le, of_bits}
use Rattle.laws.specs.Buffer.{onto}
use Rattle.laws.specs.Loops.{fold}
use Rattle.laws.specs.Refusal.{choose}
use Rattle.laws.specs.Binary64.{nought}
use Rattle.sample.specs.declared.MotionSample.{MotionSample}
use Rattle.sample.specs.Word.{most_samples}
use Rattle.median.specs.Inner.{Plain, Findable}
use Rattle.median.specs.Median.{all_finite}
use Rattle.fit.specs.declared.Fitted.{Fitted}
use Rattle.fit.specs.Sums.{reading}
use Rattle.fit.specs.Fitted.{fit_answer}
use Rattle.trim.specs.Trim.{residual, residuals_from, cutoff, kept_from}
use Rattle.trim.specs.Inner.{sample_at, up_to, square, squares_from, Limits, under}
use Rattle.trim.proofs.Passing.{fold-passing, passing-few}
use Rattle.trim.proofs.Indices.{get_d-listing, map-listing, length-up_to, passing-same, passing-all}
use Rattle.trim.proofs.NoSign.{held, square-bare, squares-plain, finite-at, under-infinity}
use Rattle.trim.proofs.Roots.{told}

-- ---- a loop with the test

-- a sample's step where its square is under the limit
abbrev pub under_step : {S : Type 0} → (S → MotionSample → S) → List MotionSample → List Float → Float → S → ℕ → S
under_step step given squares limit t i = choose (le (get_or squares i nan) limit) (step t (sample_at given i)) t

pub under-fold : {S : Type 0} (step : S → MotionSample → S) (given : List MotionSample) (squares : List Float) (limit : Float) (n : ℕ) (s : S)
    → fold (under_step step given squares limit) (up_to n) s ≡ fold (reading step (sample_at given)) (under squares limit n) s
under-fold step given squares limit n s =
    sym (fold-passing (reading step (sample_at given)) (λ (i : ℕ). le (get_or squares i nan) limit) (up_to n) s)

-- a turn where the test passes, and one where it doesn't
module _ {S : Type 0} (step : S → MotionSample → S) (given : List MotionSample) (squares : List Float) (limit : Float) (i : ℕ) (t r : S) where
  pub turn-taken : le (get_or squares i nan) limit ≡ true → r ≡ step t (sample_at given i) → r ≡ under_step step given squares limit t i
  turn-taken h e = e ∙ ap (λ (b : Bool). choose b (step t (sample_at given i)) t) (sym h)

  pub turn-passed : le (get_or squares i nan) limit ≡ false → r ≡ t → r ≡ under_step step given squares limit t i
  turn-passed h e = e ∙ ap (λ (b : Bool). choose b (step t (sample_at given i)) t) (sym h)

-- one more, or as many
abbrev pub count_step : List Float → Float → ℕ → ℕ → ℕ
count_step squares limit k i = choose (le (get_or squares i nan) limit) (k + 1) k

module _ (squares : List Float) (limit : Float) (i k r : ℕ) where
  pub count-taken : le (get_or squares i nan) limit ≡ true → r ≡ k + 1 → r ≡ count_step squares limit k i
  count-taken h e = e ∙ ap (λ (b : Bool). choose b (k + 1) k) (sym h)

  pub count-passed : le (get_or squares i nan) limit ≡ false → r ≡ k → r ≡ count_step squares limit k i
  count-passed h e = e ∙ ap (λ (b : Bool). choose b (k + 1) k) (sym h)

count-all : {A : Type 0} (xs : List A) (k : ℕ) → fold (λ (j : ℕ) (x : A). j + 1) xs k ≡ k + length xs
count-all [] k = omega arith
count-all (x ∷ xs) k = count-all xs (k + 1) ∙ omega arith

pub under-count : (squares : List Float) (limit : Float) (n : ℕ) → fold (count_step squares limit) (up_to n) 0 ≡ length (under squares limit n)
under-count squares limit n =
    sym (fold-passing (λ (k i : ℕ). k + 1) (λ (i : ℕ). le (get_or squares i nan) limit) (up_to n) 0) ∙ count-all (under squares limit n) 0 ∙ omega arith

-- no more than there are
pub under-few : (squares : List Float) (limit : Float) (n : ℕ) → length (under squares limit n) ≤ n
under-few squares limit n =
    let h : length (under squares limit n) ≤ length (up_to n) = passing-few (λ (i : ℕ). le (get_or squares i nan) limit) (up_to n) in
    omega (arith, h, length-up_to n)

-- a list of so few is fitted
pub fit-answers : (samples : ℕ) (f : Fitted) → samples ≤ most_samples → fit_answer samples f ≡ f
fit-answers samples f h = rw (le-ltb 4096 samples h)

-- ---- no square yet

nought-under-nought : le nought nought ≡ true
unfolding le lib.Ieee.lt lib.Ieee.eq of_bits
nought-under-nought = refl

pub clear-under : (m n : ℕ) → n ≤ m → under (replicate m nought) nought n ≡ up_to n
clear-under m n h =
    passing-all (λ i. le (get_or (replicate m nought) i nan) nought) n
    (λ i l. let k : i < m = omega arith in ap (λ (r : Float). le r nought) (get_or-replicate m i nought nan k) ∙ nought-under-nought)

-- ---- squares that were written to the front of a list

module _ (given : List MotionSample) (f : Fitted) (n : ℕ) (old : List Float) where
  abbrev read : ℕ → MotionSample
  read = sample_at given

  abbrev measured : List Float
  measured = squares_from read f (up_to n)

  abbrev squares : List Float
  squares = onto measured old

  length-measured : length measured ≡ n
  length-measured = length-map (up_to n) (λ (i : ℕ). square f (read i)) ∙ length-up_to n

  pub length-squares : n ≤ length old → length squares ≡ length old
  length-squares h =
      length-append measured (drop (length measured) old)
      ∙ ap (λ (k : ℕ). length measured + k) (length-drop (length measured) old)
      ∙ omega (arith, length-measured, h)

  pub squares-front : take n squares ≡ measured
  squares-front = take_at measured (drop (length measured) old) n length-measured

  in-front : (i : ℕ) → i < n → get_or squares i nan ≡ get_or measured i nan
  in-front i h = get_or-append measured (drop (length measured) old) nan i (rw length-measured h)

  measured-at : (i : ℕ) → i < n → get_or measured i nan ≡ square f (read i)
  measured-at i h =
      ap (λ (l : List Float). get_or l i nan) (map-listing (λ (k : ℕ). square f (read k)) (λ k. k) n)
      ∙ get_d-listing (λ (k : ℕ). square f (read k)) n i nan h

  module _ (finite : all_finite measured ≡ true) where
    finite-measured : (i : ℕ) → i < n → T (lib.Ieee.Scale.finite (get_or measured i nan))
    finite-measured i h = finite-at measured i (held (all_finite measured) finite) (rw length-measured h)

    plain_at : (i : ℕ) → i < n → Plain (square f (read i))
    plain_at i h =
        let b = square-bare f (read i) in
        record {
          held = b.0;
          bare = b.1;
          ends = told (lib.Ieee.Scale.finite (square f (read i))) (subst (λ (x : Float). T (lib.Ieee.Scale.finite x)) (measured-at i h) (finite-measured i h));
        }

    -- a square is under the limit where its root is under the cutoff
    pub kept_under : (limit : Float) → Limits (cutoff (residuals_from read f (up_to n))) limit → under squares limit n ≡ kept_from read f (up_to n)
    unfolding kept_from
    kept_under limit l =
        passing-same (λ i. le (get_or squares i nan) limit) (λ i. le (residual f (read i)) (cutoff (residuals_from read f (up_to n)))) n
        (λ i h. ap (λ (r : Float). le r limit) (in-front i h ∙ measured-at i h) ∙ l.same (square f (read i)) (plain_at i h))

    pub all_under : (limit : Float) → limit ≡ inf false → under squares limit n ≡ up_to n
    all_under limit e =
        passing-all (λ i. le (get_or squares i nan) limit) n
        (λ i h.
        ap (λ (r : Float). le r limit) (in-front i h)
        ∙ ap (λ (l : Float). le (get_or measured i nan) l) e
        ∙ under-infinity (get_or measured i nan) (finite-measured i h))

    pub findable : 0 < n → Findable measured
    findable some = record { some = rw length-measured some; plain = squares-plain read f (up_to n) finite }
