-- A list with another at place k, element by element, and its length.
-- Assumes nothing.
use Prim.Native.Nat.{ℕ, ◌+◌, ◌-◌, ◌≤◌, ◌<◌}
use mathlib.Core.List.{List, ◌++◌}
use mathlib.Core.Path.{◌≡◌, sym, ap, ◌∙◌}
use native.Mathlib.Omega.{arith}
use lib.ListN.{length, take, drop, get_or, length-append, length-drop, get_or-append}
use lib.Seq.{length-take-le, get_or-take, get_or-drop, get_or-append-add}
use Rattle.job_model.specs.Assemble.{inserted}

module _ {A : Type 0} (d : A) (k : ℕ) (xs others : List A) (h : k ≤ length others) where
  pub length_inserted : length (inserted k xs others) ≡ length xs + length others
  length_inserted = rw (length-append, length-append, length-take-le k others h, length-drop) (omega arith)

  pub before : (i : ℕ) → i < k → get_or (inserted k xs others) i d ≡ get_or others i d
  before i l =
      get_or-append (take k others) (xs ++ drop k others) d i (rw (length-take-le k others h) l) ∙ get_or-take k others i d l

  from_place : (i : ℕ) → k ≤ i → get_or (inserted k xs others) i d ≡ get_or (xs ++ drop k others) (i - k) d
  from_place i l =
      ap (λ (n : ℕ). get_or (inserted k xs others) n d) (let e : i ≡ k + (i - k) = omega arith in e)
      ∙ ap (λ (n : ℕ). get_or (inserted k xs others) (n + (i - k)) d) (sym (length-take-le k others h))
      ∙ get_or-append-add (take k others) (xs ++ drop k others) (i - k) d

  pub within : (i : ℕ) → k ≤ i → i - k < length xs → get_or (inserted k xs others) i d ≡ get_or xs (i - k) d
  within i l m = from_place i l ∙ get_or-append xs (drop k others) d (i - k) m

  pub after : (i : ℕ) → k + length xs ≤ i → get_or (inserted k xs others) i d ≡ get_or others (i - length xs) d
  after i l =
      from_place i (omega arith)
      ∙ ap (λ (n : ℕ). get_or (xs ++ drop k others) n d) (let e : i - k ≡ length xs + (i - k - length xs) = omega arith in e)
      ∙ get_or-append-add xs (drop k others) (i - k - length xs) d
      ∙ get_or-drop k others (i - k - length xs) d
      ∙ ap (λ (n : ℕ). get_or others n d) (let e : k + (i - k - length xs) ≡ i - length xs = omega arith in e)
