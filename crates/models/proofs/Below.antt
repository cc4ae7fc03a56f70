-- A test that holds somewhere below a number holds somewhere below each greater one; one that holds of some number of a list holds at some place.
-- Assumes nothing.
use Prim.Native.Nat.{ℕ, zero, suc, ◌≤◌}
use mathlib.Core.Bool.{Bool, true, false, ◌||◌}
use mathlib.Core.Logic.{⊎_elim}
use mathlib.Core.List.{List, [], ◌∷◌}
use mathlib.Core.Path.{◌≡◌, refl, sym, ap, ◌∙◌}
use native.Mathlib.Omega.{arith}
use lib.ListN.{length, get_or}
use Rattle.std.specs.List.{list_any}
use Rattle.laws.specs.Refusal.{either}
use Rattle.laws.specs.Below.{any_below}
use Rattle.laws.proofs.Below.{each-fails, none-holds}
use Rattle.laws.proofs.Cases.{outcome}

pub some-farther : (f : ℕ → Bool) (n m : ℕ) → n ≤ m → any_below f n ≡ true → any_below f m ≡ true
some-farther f n m le e =
    ⊎_elim
    (λ (t : any_below f m ≡ true). t)
    (λ (t : any_below f m ≡ false).
    let none : any_below f n ≡ false = none-holds f n (λ k l. each-fails f m t k (omega arith)) in
    absurd (differ (sym none ∙ e)))
    (outcome (any_below f m))
  where
    differ : false ≡ true → ⊥
    differ p = let z : ◌≡◌ {A = ℕ} 0 1 = cc in omega arith

first-apart : (f : ℕ → Bool) (n : ℕ) → any_below f (suc n) ≡ either (f 0) (any_below (λ k. f (suc k)) n)
first-apart f zero = swap (f 0)
  where
    swap : (a : Bool) → a ≡ either a false
    swap true = refl
    swap false = refl
first-apart f (suc n) = ap (λ (a : Bool). either a (f (suc n))) (first-apart f n) ∙ regroup (f 0) (any_below (λ k. f (suc k)) n) (f (suc n))
  where
    regroup : (a b c : Bool) → either (either a b) c ≡ either a (either b c)
    regroup true b c = refl
    regroup false b c = refl

pub any-listed : (p : ℕ → Bool) (xs : List ℕ) → any_below (λ k. p (get_or xs k 0)) (length xs) ≡ list_any p xs
any-listed p [] = refl
any-listed p (x ∷ xs) =
    first-apart (λ k. p (get_or (x ∷ xs) k 0)) (length xs) ∙ ap (either (p x)) (any-listed p xs) ∙ either-or (p x) (list_any p xs)
  where
    either-or : (a b : Bool) → either a b ≡ a || b
    either-or true b = refl
    either-or false b = refl
