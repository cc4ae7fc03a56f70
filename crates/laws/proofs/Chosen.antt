-- Choosing by labels: it goes with reading, all labels that pass choose all, and the loop that moves the chosen to the front of a buffer:
-- each element is stored where the next chosen one belongs, and counted where its label passes.
-- Assumes nothing.
use Prim.Native.Nat.{ℕ, ◌+◌, ◌≤◌, ◌<◌, zero-le}
use mathlib.Core.Bool.{Bool, true, false}
use mathlib.Core.List.{List, [], ◌∷◌, ◌++◌, map, append_assoc, append-nil}
use mathlib.Core.Path.{◌≡◌, refl, sym, ap, ◌∙◌}
use native.Mathlib.Nat.{le_refl}
use native.Mathlib.Numerals.{add-one}
use native.Mathlib.Omega.{arith}
use lib.ListN.{length, take, drop, get_or, set, drop_of_length-le}
use lib.Seq.{drop-cons, take-suc-set, take-set-le, length-take-le}
use Rattle.laws.specs.Refusal.{choose}
use Rattle.laws.specs.Chosen.{chosen_by, Front}

module _ {A L : Type 0} (p : L → Bool) where
  one_more : (b : Bool) (x : A) (ys xs : List A) → length ys ≤ length xs → length (choose b (x ∷ ys) ys) ≤ length (x ∷ xs)
  one_more true x ys xs h = omega arith
  one_more false x ys xs h = omega arith

  pub chosen-few : (xs : List A) (labels : List L) → length (chosen_by p xs labels) ≤ length xs
  chosen-few [] labels = zero-le
  chosen-few (x ∷ xs) [] = zero-le
  chosen-few (x ∷ xs) (l ∷ labels) = one_more (p l) x (chosen_by p xs labels) xs (chosen-few xs labels)

module _ {A B L : Type 0} (p : L → Bool) (read : A → B) where
  read-or-not : (b : Bool) (x : A) (xs : List A) → choose b (read x ∷ map read xs) (map read xs) ≡ map read (choose b (x ∷ xs) xs)
  read-or-not true x xs = refl
  read-or-not false x xs = refl

  -- what was read is chosen as what it was read from
  pub chosen-map : (xs : List A) (labels : List L) → chosen_by p (map read xs) labels ≡ map read (chosen_by p xs labels)
  chosen-map [] labels = refl
  chosen-map (x ∷ xs) [] = refl
  chosen-map (x ∷ xs) (l ∷ labels) =
      ap (λ (ys : List B). choose (p l) (read x ∷ ys) ys) (chosen-map xs labels) ∙ read-or-not (p l) x (chosen_by p xs labels)

module _ {A L M : Type 0} (p : M → Bool) (read : L → M) where
  -- labels that were read pass as what they were read from
  pub chosen-labels : (xs : List A) (labels : List L) → chosen_by p xs (map read labels) ≡ chosen_by (λ (l : L). p (read l)) xs labels
  chosen-labels [] labels = refl
  chosen-labels (x ∷ xs) [] = refl
  chosen-labels (x ∷ xs) (l ∷ labels) = ap (λ (ys : List A). choose (p (read l)) (x ∷ ys) ys) (chosen-labels xs labels)

-- ---- the loop

module _ {A L : Type 0} (p : L → Bool) (xs : List A) (labels : List L) where
  stored : (b : Bool) (x : A) (out rest : List A) (n : ℕ) → n < length out
      → take (choose b (n + 1) n) (set out n x) ++ rest ≡ take n out ++ choose b (x ∷ rest) rest
  stored true x out rest n h =
      rw (add-one n, take-suc-set out n x h) (append_assoc (take n out) (x ∷ []) rest)
  stored false x out rest n h = rw (take-set-le n out n x (le_refl n))

  -- the element at i, then the rest
  pub chosen-step : (i : ℕ) (d : A) (e : L) → i < length xs → i < length labels
      → chosen_by p (drop i xs) (drop i labels)
      ≡ choose (p (get_or labels i e)) (get_or xs i d ∷ chosen_by p (drop (i + 1) xs) (drop (i + 1) labels)) (chosen_by p (drop (i + 1) xs) (drop (i + 1) labels))
  chosen-step i d e h k = rw (add-one i, drop-cons xs i d, drop-cons labels i e) refl

  pub chosen-again : (i n : ℕ) (out : List A) (d : A) (e : L) {l : List A} → i < length xs → i < length labels → n < length out
      → take n out ++ chosen_by p (drop i xs) (drop i labels) ≡ l
      → take (choose (p (get_or labels i e)) (n + 1) n) (set out n (get_or xs i d)) ++ chosen_by p (drop (i + 1) xs) (drop (i + 1) labels) ≡ l
  chosen-again i n out d e h k m r =
      stored (p (get_or labels i e)) (get_or xs i d) out (chosen_by p (drop (i + 1) xs) (drop (i + 1) labels)) n m
      ∙ ap (λ (ys : List A). take n out ++ ys) (sym (chosen-step i d e h k)) ∙ r

  pub chosen-done : (i n : ℕ) (out : List A) {l : List A} → length xs ≤ i → n ≤ length out
      → take n out ++ chosen_by p (drop i xs) (drop i labels) ≡ l → Front l out n
  chosen-done i n out {l} h m r =
      let front : take n out ≡ l =
      sym (append-nil (take n out)) ∙ ap (λ (rest : List A). take n out ++ chosen_by p rest (drop i labels)) (sym (drop_of_length-le xs h)) ∙ r in
      record { counted = sym (length-take-le n out m) ∙ ap length front; front = front }
