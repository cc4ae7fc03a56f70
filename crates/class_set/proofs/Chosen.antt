-- The elements of the named classes: all of them where all five are named, as many as classes are named, at most all; and how many pass.
-- Assumes nothing.
use Prim.Native.Nat.{ℕ, ◌≤◌}
use mathlib.Core.Bool.{Bool, true, false}
use mathlib.Core.List.{List, [], ◌∷◌, map}
use mathlib.Core.Path.{◌≡◌, refl, sym, ap}
use Rattle.std.specs.List.{count_by}
use Rattle.std.specs.Prelude.{cond, ◌+◌}
use Rattle.std.proofs.lemmas.List.Recursion.{is_count_by}
use native.Mathlib.Omega.{arith}
use borrow.Author.Tests.{ltb-false}
use lib.Dec.{ltb}
use lib.ListN.{length}
use Rattle.laws.specs.Refusal.{choose}
use Rattle.laws.proofs.Refusal.{neither}
use Rattle.laws.proofs.Chosen.{chosen-few, chosen-map}
use Rattle.class.specs.Class.{last_class, class_over}
use Rattle.class_set.specs.Set.{all_classes, names, chosen, named_count}
use Rattle.class_set.proofs.Named.{all_named}

module _ {A : Type 0} where
  pub all-chosen : (xs : List A) (classes : List ℕ) → length classes ≡ length xs → class_over last_class classes ≡ false → chosen all_classes xs classes ≡ xs
  all-chosen [] classes e h = refl
  all-chosen (x ∷ xs) [] e h = absurd (omega arith)
  all-chosen (x ∷ xs) (c ∷ classes) e h =
      let low = neither (ltb last_class c) (class_over last_class classes) h in
      rw (all_named c (ltb-false last_class c low.0))
      (ap (λ (ys : List A). x ∷ ys) (all-chosen xs classes (omega arith) low.1))

  -- as many as the classes that are named
  pub chosen-count : (set : ℕ) (xs : List A) (classes : List ℕ) → length classes ≡ length xs → length (chosen set xs classes) ≡ named_count set classes
  chosen-count set [] [] e = refl
  chosen-count set [] (c ∷ classes) e = absurd (omega arith)
  chosen-count set (x ∷ xs) [] e = absurd (omega arith)
  chosen-count set (x ∷ xs) (c ∷ classes) e = alike (names set c) (chosen set xs classes) (chosen set classes classes) (chosen-count set xs classes (omega arith))
    where
      alike : (b : Bool) (ys : List A) (cs : List ℕ) → length ys ≡ length cs → length (choose b (x ∷ ys) ys) ≡ length (choose b (c ∷ cs) cs)
      alike true ys cs h = omega arith
      alike false ys cs h = h

  pub named-few : (set : ℕ) (xs : List A) (classes : List ℕ) → length (chosen set xs classes) ≤ length xs
  named-few set xs classes = chosen-few (names set) xs classes

pub count-few : (set : ℕ) (classes : List ℕ) → named_count set classes ≤ length classes
count-few set classes = named-few set classes classes

pub all-counted : (classes : List ℕ) → class_over last_class classes ≡ false → named_count all_classes classes ≡ length classes
all-counted classes h = ap length (all-chosen classes classes refl h)

-- what was read is chosen as what it was read from
pub read-chosen : {A B : Type 0} (read : A → B) (set : ℕ) (xs : List A) (classes : List ℕ)
    → chosen set (map read xs) classes ≡ map read (chosen set xs classes)
read-chosen read set xs classes = chosen-map (names set) read xs classes

-- the classes that pass are counted as they are chosen
pub count-is : (set : ℕ) (classes : List ℕ) → count_by (names set) classes ≡ named_count set classes
count-is set classes = sym (is_count_by (named_count set) (names set) refl (λ c cs. longer (names set c) c (chosen set cs cs)) classes)
  where
    longer : (b : Bool) (c : ℕ) (cs : List ℕ) → length (choose b (c ∷ cs) cs) ≡ cond b (1 + length cs) (length cs)
    longer true c cs = omega arith
    longer false c cs = refl
