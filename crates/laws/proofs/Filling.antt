-- A loop that fills a buffer from a position on, one element a turn: the write at i, after the first i elements, leaves the first i + 1.
-- Assumes nothing.
use Prim.Native.Nat.{ℕ, zero, suc, ◌+◌, ◌≤◌, ◌<◌, suc-le-suc}
use mathlib.Core.List.{List, [], ◌∷◌, ◌++◌, append_assoc}
use mathlib.Core.Path.{◌≡◌, refl, sym, ap, ◌∙◌}
use native.Mathlib.Nat.{le_of_lt, le_refl}
use native.Mathlib.Numerals.{add-one}
use native.Mathlib.Omega.{arith}
use lib.ListN.{length, take, set, get_or, length-append}
use lib.Seq.{length-take-le, take-suc}
use Rattle.laws.specs.Buffer.{onto}
use Rattle.laws.specs.Parts.{listing}
use Rattle.laws.specs.Placed.{placed}
use Rattle.laws.proofs.Placed.{set_after, placed-front}

module _ {A : Type 0} where
  pub length-listing : (f : ℕ → A) (n : ℕ) → length (listing f n) ≡ n
  length-listing f zero = refl
  length-listing f (suc n) = rw (length-append (listing f n) (f n ∷ []), length-listing f n) (add-one n)

  pub listing-same : (f g : ℕ → A) (n : ℕ) → ((i : ℕ) → i < n → f i ≡ g i) → listing f n ≡ listing g n
  listing-same f g zero h = refl
  listing-same f g (suc n) h =
      rw (listing-same f g n (λ i l. h i (le_of_lt (suc-le-suc l))), h n (le_refl (suc n)))

  -- a list is the listing of its elements
  pub listing-take : (from : List A) (d : A) (n : ℕ) → n ≤ length from → listing (λ i. get_or from i d) n ≡ take n from
  listing-take from d zero h = refl
  listing-take from d (suc n) h = rw (listing-take from d n (omega arith)) (sym (take-suc from n d h))

  -- one element more, from a position on
  pub fill : (f : ℕ → A) (at i : ℕ) (old : List A) {to : List A} {v : A} → at + i < length old → to ≡ placed at (listing f i) old → v ≡ f i
      → set to (at + i) v ≡ placed at (listing f (i + 1)) old
  fill f at i old {to} {v} h e q =
      let long : length (take at old ++ listing f i) ≡ at + i =
      length-append (take at old) (listing f i) ∙ ap (λ (n : ℕ). n + length (listing f i)) (length-take-le at old (omega arith)) ∙ ap (λ (n : ℕ). at + n) (length-listing f i) in
      rw (q, add-one i) (ap (λ (t : List A). set t (at + i) (f i)) (e ∙ placed-front at (listing f i) old (omega arith))
      ∙ set_after (at + i) (take at old ++ listing f i) old (f i) long h
      ∙ ap (λ (t : List A). onto t old) (append_assoc (take at old) (listing f i) (f i ∷ []))
      ∙ sym (placed-front at (listing f i ++ (f i ∷ [])) old (omega arith)))

  -- from the front
  pub fill-front : (f : ℕ → A) (i : ℕ) (old : List A) {to : List A} {v : A} → i < length old → to ≡ onto (listing f i) old → v ≡ f i
      → set to i v ≡ onto (listing f (i + 1)) old
  fill-front f i old {to} {v} h e q =
      let z : i ≡ 0 + i = omega arith in
      ap (λ (k : ℕ). set to k v) z ∙ fill f 0 i old {to = to} {v = v} (omega arith) e q

  -- one element more of a list that is copied to the front
  pub set_next : (i : ℕ) (from old to : List A) (d : A) → i < length from → i < length old → to ≡ onto (take i from) old
      → set to i (get_or from i d) ≡ onto (take (i + 1) from) old
  set_next i from old to d h l e =
      let few : i ≤ length from = omega arith in
      let next : i + 1 ≤ length from = omega arith in
      rw (← listing-take from d (i + 1) next)
      (fill-front (λ k. get_or from k d) i old l (e ∙ ap (λ (t : List A). onto t old) (sym (listing-take from d i few))) refl)
