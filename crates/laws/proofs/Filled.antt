-- A list that is being made equal to another, element by element from the front: one element more, and all of them.
-- Assumes nothing.
use Prim.Native.Nat.{ℕ, ◌+◌, ◌≤◌, ◌<◌}
use mathlib.Core.List.{List, [], ◌∷◌, ◌++◌}
use mathlib.Core.Path.{◌≡◌, refl, sym, ap, ◌∙◌}
use native.Mathlib.Numerals.{add-one}
use lib.ListN.{length, take, get_or, set, length-set}
use lib.Seq.{take_all, take-suc, take-suc-set}

-- the loop's invariant
pub record Filled {A : Type 0} (target out : List A) (i : ℕ) : Type 0 where
  pub long : length out ≡ length target
  pub front : take i out ≡ take i target

module _ {A : Type 0} (d : A) where
  pub filled_none : (target out : List A) → length out ≡ length target → Filled target out 0
  filled_none target out e = record { long = e; front = refl }

  pub filled_more : (target out : List A) (i : ℕ) (v : A) → i < length target → v ≡ get_or target i d → Filled target out i → Filled target (set out i v) (i + 1)
  filled_more target out i v h e f =
      record {
        long = length-set out i v ∙ f.long;
        front =
            rw (add-one i)
            (take-suc-set out i v (rw f.long h)
            ∙ ap (λ (l : List A). l ++ (v ∷ [])) f.front
            ∙ ap (λ (x : A). take i target ++ (x ∷ [])) e
            ∙ sym (take-suc target i d h));
      }

  pub filled-all : (target out : List A) (i : ℕ) → length target ≤ i → Filled target out i → out ≡ target
  filled-all target out i h f =
      sym (take_all i out (rw f.long h)) ∙ f.front ∙ take_all i target h
