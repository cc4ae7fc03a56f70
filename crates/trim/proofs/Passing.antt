-- Keeping the elements of a list that pass a test: the kept list is the list filtered. It goes with parts and with reading, and a fold of what is kept is a fold with the test.
-- Assumes nothing.
use Prim.Native.Nat.{◌≤◌, zero-le}
use mathlib.Core.Bool.{Bool, true, false}
use mathlib.Core.List.{List, [], ◌∷◌, ◌++◌, map}
use mathlib.Core.Path.{◌≡◌, refl, ap, ◌∙◌}
use native.Mathlib.Omega.{arith}
use lib.ListN.{length}
use Rattle.laws.specs.Loops.{fold}
use Rattle.laws.specs.Refusal.{choose}
use Rattle.trim.specs.Trim.{passing}

module _ {A : Type 0} where
  front : (b : Bool) (x : A) (xs ys : List A) → choose b (x ∷ (xs ++ ys)) (xs ++ ys) ≡ choose b (x ∷ xs) xs ++ ys
  front true x xs ys = refl
  front false x xs ys = refl

  -- the parts' elements in the parts' order
  pub passing-append : (p : A → Bool) (xs ys : List A) → passing p (xs ++ ys) ≡ passing p xs ++ passing p ys
  passing-append p [] ys = refl
  passing-append p (x ∷ xs) ys =
      ap (λ (l : List A). choose (p x) (x ∷ l) l) (passing-append p xs ys) ∙ front (p x) x (passing p xs) (passing p ys)

  -- a test that all pass
  pub passing-true : (xs : List A) → passing (λ (x : A). true) xs ≡ xs
  passing-true [] = refl
  passing-true (x ∷ xs) = ap (λ (l : List A). x ∷ l) (passing-true xs)

  one_more : (b : Bool) (x : A) (ys xs : List A) → length ys ≤ length xs → length (choose b (x ∷ ys) ys) ≤ length (x ∷ xs)
  one_more true x ys xs h = omega arith
  one_more false x ys xs h = omega arith

  pub passing-few : (p : A → Bool) (xs : List A) → length (passing p xs) ≤ length xs
  passing-few p [] = zero-le
  passing-few p (x ∷ xs) = one_more (p x) x (passing p xs) xs (passing-few p xs)

module _ {A S : Type 0} (f : S → A → S) (p : A → Bool) where
  taken-or-not : (b : Bool) (x : A) (xs : List A) (s : S) → fold f (choose b (x ∷ xs) xs) s ≡ fold f xs (choose b (f s x) s)
  taken-or-not true x xs s = refl
  taken-or-not false x xs s = refl

  -- a loop with the test
  pub fold-passing : (xs : List A) (s : S) → fold f (passing p xs) s ≡ fold (λ (t : S) (x : A). choose (p x) (f t x) t) xs s
  fold-passing [] s = refl
  fold-passing (x ∷ xs) s = taken-or-not (p x) x (passing p xs) s ∙ fold-passing xs (choose (p x) (f s x) s)

module _ {A B : Type 0} (read : A → B) (p : B → Bool) where
  read-or-not : (b : Bool) (x : A) (xs : List A) → choose b (read x ∷ map read xs) (map read xs) ≡ map read (choose b (x ∷ xs) xs)
  read-or-not true x xs = refl
  read-or-not false x xs = refl

  -- what was read is kept where it passes
  pub passing-map : (xs : List A) → passing p (map read xs) ≡ map read (passing (λ (x : A). p (read x)) xs)
  passing-map [] = refl
  passing-map (x ∷ xs) =
      ap (λ (l : List B). choose (p (read x)) (read x ∷ l) l) (passing-map xs) ∙ read-or-not (p (read x)) x (passing (λ (y : A). p (read y)) xs)
