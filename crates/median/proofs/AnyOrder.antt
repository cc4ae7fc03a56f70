-- The order of a list plays no part in its median: lists of the same plain numbers, each equally often, are one ordered list.
-- Assumes nothing.
use Prim.Native.Nat.{ℕ, suc}
use mathlib.Core.Bool.{true, false}
use mathlib.Core.List.{List, [], ◌∷◌, map}
use mathlib.Core.Logic.{⊎_elim}
use mathlib.Core.Path.{◌≡◌, refl, sym, ap, ◌∙◌}
use native.Mathlib.Omega.{arith}
use lib.Dec.{eqb}
use lib.IntN.{ℤ, pos, nat_abs}
use lib.ListN.{length, get_or, drop}
use lib.Ieee.{Float, binary64, le, to_bits}
use Rattle.laws.specs.Refusal.{choose}
use Rattle.laws.specs.Stands.{Each, sum_of}
use Rattle.laws.proofs.Cases.{outcome}
use Rattle.median.specs.Median.{insert, ordered, median}
use Rattle.median.specs.Inner.{Plain}
use Rattle.median.specs.Same.{times, SameNumbers}
use Rattle.median.proofs.Patterns.{one-pattern}
use Rattle.median.proofs.Rising.{standing, same-sorted}
use Rattle.median.proofs.Search.{patterns, each-ordered, patterns-ordered}

-- ---- one ordered list

pub one_list : (xs ys : List Float) → Each Plain xs → Each Plain ys → patterns xs ≡ patterns ys → xs ≡ ys
one_list [] [] p q e = refl
one_list [] (y ∷ ys) p q e = absurd (let n : 0 ≡ suc (length (patterns ys)) = ap length e in omega arith)
one_list (x ∷ xs) [] p q e = absurd (let n : suc (length (patterns xs)) ≡ 0 = ap length e in omega arith)
one_list (x ∷ xs) (y ∷ ys) p q e =
    let first : to_bits binary64 x ≡ to_bits binary64 y = ap (λ (l : List ℕ). get_or l 0 0) e in
    let rest : patterns xs ≡ patterns ys = ap (drop 1) e in
    rw (one-pattern x y p.0 q.0 first) (ap (λ (l : List Float). y ∷ l) (one_list xs ys p.1 q.1 rest))

times-standing : (b : ℕ) (xs : List Float) → times b xs ≡ standing b (patterns xs)
times-standing b [] = refl
times-standing b (x ∷ xs) = rw (times-standing b xs)

length-insert : (x : Float) (ys : List Float) → length (insert x ys) ≡ suc (length ys)
length-insert x [] = refl
length-insert x (y ∷ ys) =
    ⊎_elim
    (λ (t : le x y ≡ true). rw t)
    (λ (t : le x y ≡ false). rw t (ap suc (length-insert x ys)))
    (outcome (le x y))

pub length-ordered : (xs : List Float) → length (ordered xs) ≡ length xs
length-ordered [] = refl
length-ordered (x ∷ xs) = length-insert x (ordered xs) ∙ ap suc (length-ordered xs)

module _ {xs ys : List Float} (same : SameNumbers xs ys) (p : Each Plain xs) (q : Each Plain ys) where
  pub same-ordered : ordered xs ≡ ordered ys
  same-ordered =
      one_list (ordered xs) (ordered ys) (each-ordered Plain xs p) (each-ordered Plain ys q)
      (patterns-ordered xs p
      ∙ same-sorted (patterns xs) (patterns ys) (λ b. sym (times-standing b xs) ∙ same.often b ∙ times-standing b ys)
      ∙ sym (patterns-ordered ys q))

  pub same_length : length xs ≡ length ys
  same_length = sym (length-ordered xs) ∙ ap length same-ordered ∙ length-ordered ys

  pub same-median : median xs ≡ median ys
  unfolding median
  same-median = rw (same-ordered, same_length)

-- ---- numbers that are read from the elements of a list

module _ {A : Type 0} (f : A → Float) where
  times-mapped : (b : ℕ) (ws : List A) → sum_of (λ w. pos (choose (eqb (to_bits binary64 (f w)) b) 1 0)) ws ≡ pos (times b (map f ws))
  times-mapped b [] = refl
  times-mapped b (w ∷ ws) = rw (times-mapped b ws)

  -- of lists whose whole-number sums are equal, whatever is added up
  pub same-mapped : (ws vs : List A) → ((whole : A → ℤ) → sum_of whole ws ≡ sum_of whole vs) → SameNumbers (map f ws) (map f vs)
  same-mapped ws vs h =
      record { often = λ b. ap nat_abs (sym (times-mapped b ws) ∙ h (λ w. pos (choose (eqb (to_bits binary64 (f w)) b) 1 0)) ∙ times-mapped b vs) }
