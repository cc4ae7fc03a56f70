-- The bits of a header are as many as its types' bits and its coefficients' bits: a length of joined lists is the sum of their lengths.
-- Assumes nothing.
use Prim.Native.Nat.{ℕ, zero, suc, ◌+◌, ◌*◌}
use mathlib.Core.List.{List, [], ◌∷◌}
use mathlib.Core.Path.{◌≡◌, refl, ap, sym, ◌∙◌}
use native.Mathlib.Omega.{arith}
use lib.IntN.{ℤ}
use lib.ListN.{length, get_or, length-append}
use Rattle.laws.specs.Loops.{sum}
use Rattle.grid.specs.Slots.{slots_of}
use Rattle.header.specs.Count.{total, slot_count, model_count, header_count}
use Rattle.header.specs.Writing.{type_bits, slot_bits, slots_bits, model_bits, reference_bits, references_bits, header_bits}

module _ (flag : ℕ) (ps qs : List ℤ) (gm_type first : ℕ) where
  slots-count : (ss : List ℕ) → length (slots_bits flag ps qs gm_type first ss) ≡ total (slot_count flag ps qs gm_type first) ss
  slots-count [] = refl
  slots-count (s ∷ ss) = length-append (slot_bits flag ps qs gm_type first s) (slots_bits flag ps qs gm_type first ss) ∙ rw (slots-count ss)

  pub model-count : length (reference_bits flag ps qs gm_type first) ≡ model_count flag ps qs gm_type first
  unfolding reference_bits model_bits model_count
  model-count = length-append (type_bits gm_type) (slots_bits flag ps qs gm_type first (slots_of gm_type)) ∙ rw (slots-count (slots_of gm_type))

-- a sum by its first term
sum-front : (f : ℕ → ℕ) (n : ℕ) → sum f (suc n) ≡ f 0 + sum (λ i. f (suc i)) n
sum-front f zero = omega arith
sum-front f (suc n) = omega (arith, sum-front f n)

sum_same : (f g : ℕ → ℕ) (n : ℕ) → ((i : ℕ) → f i ≡ g i) → sum f n ≡ sum g n
sum_same f g zero h = refl
sum_same f g (suc n) h = rw (sum_same f g n h, h n)

module _ (types : List ℕ) (ps : List ℤ) (flag : ℕ) (qs : List ℤ) where
  abbrev count : ℕ → ℕ
  count r = model_count flag ps qs (get_or types r 0) (6 * r)

  references-count : (n r : ℕ) → length (references_bits flag ps qs types n r) ≡ sum (λ i. count (r + i)) n
  references-count zero r = refl
  references-count (suc n) r =
      let front : sum (λ i. count (r + i)) (suc n) ≡ count (r + 0) + sum (λ i. count (r + suc i)) n = sum-front (λ i. count (r + i)) n in
      let rest : sum (λ i. count (r + 1 + i)) n ≡ sum (λ i. count (r + suc i)) n =
      sum_same (λ i. count (r + 1 + i)) (λ i. count (r + suc i)) n (λ i. ap count (let e : r + 1 + i ≡ r + suc i = omega arith in e)) in
      let first : count (r + 0) ≡ count r = ap count (let e : r + 0 ≡ r = omega arith in e) in
      length-append (reference_bits flag ps qs (get_or types r 0) (6 * r)) (references_bits flag ps qs types n (r + 1))
      ∙ rw (model-count flag ps qs (get_or types r 0) (6 * r), references-count n (r + 1), rest) (sym (front ∙ ap (λ (x : ℕ). x + sum (λ i. count (r + suc i)) n) first))

  -- of the first n references
  pub first_count : (n : ℕ) → length (references_bits flag ps qs types n 0) ≡ sum (λ r. model_count flag ps qs (get_or types r 0) (6 * r)) n
  first_count n = references-count n 0 ∙ sum_same (λ i. count (0 + i)) count n (λ i. ap count (let e : 0 + i ≡ i = omega arith in e))

  pub header-count : length (header_bits types ps flag qs) ≡ header_count types ps flag qs
  unfolding header_bits header_count
  header-count = first_count 7
