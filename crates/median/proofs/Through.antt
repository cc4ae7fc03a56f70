-- A function that never falls goes through the median: the ordered list of its values is its values over the ordered list, so the median of its values is its value at the median.
-- Assumes nothing.
use Prim.Native.Nat.{ℕ, ◌+◌, ◌/◌, ◌≤◌, ◌<◌}
use mathlib.Core.Bool.{true, false, not, false≢true}
use mathlib.Core.List.{List, [], ◌∷◌, map}
use mathlib.Core.Logic.{⊎_elim}
use mathlib.Core.Path.{◌≡◌, refl, sym, ap, ◌∙◌}
use native.Mathlib.Omega.{arith}
use borrow.Author.Tests.{lt-ltb, le-ltb}
use lib.Dec.{ltb}
use lib.ListN.{length, get_or, length-map, get_or-map}
use lib.Ieee.{Float, binary64, le, to_bits}
use Rattle.laws.specs.Refusal.{choose}
use Rattle.laws.specs.Stands.{Each}
use Rattle.laws.specs.Binary64.{nought}
use Rattle.laws.proofs.Cases.{outcome, lt-or-le}
use Rattle.median.specs.Median.{insert, ordered, median}
use Rattle.median.specs.Inner.{Plain}
use Rattle.median.proofs.Patterns.{le-of-bits, plain-below}
use Rattle.median.proofs.Rising.{Rising, under, sorted, sorted-rising, under-sorted, same-list}
use Rattle.median.proofs.Search.{patterns, each_at, zero-below, each-ordered, patterns-ordered}
use Rattle.median.proofs.AnyOrder.{one_list}

-- ---- the order of plain numbers is that of their patterns

module _ (x y : Float) (p : Plain x) (q : Plain y) where
  pub le-from-bits : to_bits binary64 x ≤ to_bits binary64 y → le x y ≡ true
  le-from-bits h = le-of-bits x y p q ∙ ap not (le-ltb (to_bits binary64 y) (to_bits binary64 x) h)

  pub bits-from-le : le x y ≡ true → to_bits binary64 x ≤ to_bits binary64 y
  bits-from-le e =
      ⊎_elim
      (λ (h : to_bits binary64 y < to_bits binary64 x).
      let n : le x y ≡ false = le-of-bits x y p q ∙ ap not (lt-ltb (to_bits binary64 y) (to_bits binary64 x) h) in
      absurd (false≢true (sym n ∙ e)))
      (λ (h : to_bits binary64 x ≤ to_bits binary64 y). h)
      (lt-or-le (to_bits binary64 y) (to_bits binary64 x))

pub median-plain : (xs : List Float) → Each Plain xs → Plain (median xs)
unfolding median
median-plain xs e = each_at Plain (ordered xs) (length xs / 2) nought (plain-below 0 zero-below) (each-ordered Plain xs e)

-- ---- through the ordered list

module _ (f : Float → Float) (keeps : (x : Float) → Plain x → Plain (f x)) (rises : (x y : Float) → Plain x → Plain y → le x y ≡ true → le (f x) (f y) ≡ true) where
  pub each-through : (xs : List Float) → Each Plain xs → Each Plain (map f xs)
  each-through [] e = tt
  each-through (x ∷ xs) e = (keeps x e.0, each-through xs e.1)

  bits-rise : (x y : Float) → Plain x → Plain y → to_bits binary64 x ≤ to_bits binary64 y → to_bits binary64 (f x) ≤ to_bits binary64 (f y)
  bits-rise x y p q h = bits-from-le (f x) (f y) (keeps x p) (keeps y q) (rises x y p q (le-from-bits x y p q h))

  each-above : (x : Float) (ys : List Float) → Plain x → Each Plain ys
      → Each (λ (m : ℕ). to_bits binary64 x ≤ m) (patterns ys) → Each (λ (m : ℕ). to_bits binary64 (f x) ≤ m) (patterns (map f ys))
  each-above x [] p e h = tt
  each-above x (y ∷ ys) p e h = (bits-rise x y p e.0 h.0, each-above x ys p e.1 h.1)

  rising-through : (ys : List Float) → Each Plain ys → Rising (patterns ys) → Rising (patterns (map f ys))
  rising-through [] e r = tt
  rising-through (y ∷ ys) e r = (each-above y ys e.0 e.1 r.0, rising-through ys e.1 r.1)

  under-insert : (p : ℕ) (x : Float) (ys : List Float)
      → under p (patterns (map f (insert x ys))) ≡ choose (ltb (to_bits binary64 (f x)) p) 1 0 + under p (patterns (map f ys))
  under-insert p x [] = refl
  under-insert p x (y ∷ ys) =
      ⊎_elim
      (λ (t : le x y ≡ true). rw t)
      (λ (t : le x y ≡ false). let e = under-insert p x ys in rw t (omega arith))
      (outcome (le x y))

  under-through : (p : ℕ) (xs : List Float) → under p (patterns (map f (ordered xs))) ≡ under p (patterns (map f xs))
  under-through p [] = refl
  under-through p (x ∷ xs) = let e = under-through p xs in let q = under-insert p x (ordered xs) in omega arith

  rising-ordered : (xs : List Float) → Each Plain xs → Rising (patterns (ordered xs))
  rising-ordered xs e = rw (patterns-ordered xs e) (sorted-rising (patterns xs))

  pub ordered-through : (xs : List Float) → Each Plain xs → ordered (map f xs) ≡ map f (ordered xs)
  ordered-through xs e =
      let fs = each-through xs e in
      let os = each-ordered Plain xs e in
      one_list (ordered (map f xs)) (map f (ordered xs)) (each-ordered Plain (map f xs) fs) (each-through (ordered xs) os)
      (patterns-ordered (map f xs) fs
      ∙ same-list (sorted (patterns (map f xs))) (patterns (map f (ordered xs))) (sorted-rising (patterns (map f xs)))
      (rising-through (ordered xs) os (rising-ordered xs e))
      (λ p. under-sorted p (patterns (map f xs)) ∙ sym (under-through p xs)))

  -- where it keeps nought, of the empty list too
  pub median-through : f nought ≡ nought → (xs : List Float) → Each Plain xs → median (map f xs) ≡ f (median xs)
  unfolding median
  median-through z xs e =
      ap (λ (l : List Float). get_or l (length (map f xs) / 2) nought) (ordered-through xs e)
      ∙ ap (λ (n : ℕ). get_or (map f (ordered xs)) (n / 2) nought) (length-map xs f)
      ∙ ap (get_or (map f (ordered xs)) (length xs / 2)) (sym z)
      ∙ get_or-map f (ordered xs) (length xs / 2) nought
