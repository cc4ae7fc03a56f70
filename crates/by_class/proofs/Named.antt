-- What rests on the named samples alone, for any call that takes what is read from its list and nothing else.
-- Assumes nothing.
use Prim.Native.Nat.{ℕ}
use mathlib.Core.Bool.{Bool}
use mathlib.Core.List.{List, map}
use mathlib.Core.Path.{◌≡◌, sym, ap, ◌∙◌}
use lib.ListN.{length, length-map}
use Rattle.laws.specs.Call.{answered}
use Rattle.laws.specs.Refusal.{or_else}
use Rattle.sample.specs.declared.MotionSample.{MotionSample}
use Rattle.sample.specs.Sample.{sample_of}
use Rattle.class_set.specs.Set.{all_classes, chosen}
use Rattle.class_set.proofs.Chosen.{all-chosen, read-chosen}
use Rattle.fit.proofs.SameSamples.{without_class, class-plays-no-part}
use Rattle.by_class.specs.ByClass.{by_class}
use Rattle.class_rows.specs.Rows.{lets_pass, empty_refusal, set_refusal}
use Rattle.by_class.specs.Agree.{Pass, Agree}
use Rattle.by_class.proofs.Rows.{passed}

module _ {A B : Type 0} (refused : ℕ → B) (wrong : Bool) (call : List A → B) where
  -- what rows 1, 2 and 4 let pass rests on row 19 and the named samples
  pub by-named : (set : ℕ) (xs : List A) (cs : List ℕ) → lets_pass wrong set (length xs) cs ≡ 0
      → by_class refused wrong call set xs cs ≡ answered refused (empty_refusal set) (call (chosen set xs cs))
  by-named set xs cs e = ap (λ (n : ℕ). answered refused (or_else n (empty_refusal set)) (call (chosen set xs cs))) e

  -- all five classes named: the call itself
  pub all-five : (xs : List A) (cs : List ℕ) → lets_pass wrong all_classes (length xs) cs ≡ 0 → by_class refused wrong call all_classes xs cs ≡ call xs
  all-five xs cs e =
      let p = passed wrong all_classes (length xs) cs e in
      by-named all_classes xs cs e ∙ ap call (all-chosen xs cs p.classed p.held)

  module _ {set : ℕ} {xs ys : List A} {cs ds : List ℕ} (p : Pass wrong set xs cs ys ds) where
    -- the call's own answers over the named samples decide
    pub same-call : call (chosen set xs cs) ≡ call (chosen set ys ds) → by_class refused wrong call set xs cs ≡ by_class refused wrong call set ys ds
    same-call e = by-named set xs cs p.first ∙ ap (answered refused (empty_refusal set)) e ∙ sym (by-named set ys ds p.second)

  module _ (read : A → MotionSample) (over : List MotionSample → B) (mapped : (xs : List A) → over (map read xs) ≡ call xs) where
    -- what is read from the list has the list's answer
    pub of-read : (set : ℕ) (xs : List A) (cs : List ℕ) → by_class refused wrong over set (map read xs) cs ≡ by_class refused wrong call set xs cs
    of-read set xs cs =
        ap (λ (n : ℕ). answered refused (set_refusal wrong set n cs) (over (chosen set (map read xs) cs))) (length-map xs read)
        ∙ ap (answered refused (set_refusal wrong set (length xs) cs)) (ap over (read-chosen read set xs cs) ∙ mapped (chosen set xs cs))

    -- the same named samples in order, the same answer, however the others differ
    pub agree : {set : ℕ} {xs ys : List A} {cs ds : List ℕ} → Agree read wrong set xs cs ys ds
        → by_class refused wrong call set xs cs ≡ by_class refused wrong call set ys ds
    agree {set} {xs} {ys} {cs} {ds} a =
        same-call a.pass
        (sym (mapped (chosen set xs cs))
        ∙ ap over (sym (read-chosen read set xs cs) ∙ a.named ∙ read-chosen read set ys ds)
        ∙ mapped (chosen set ys ds))

-- words that differ in their class bits alone agree: a class stands in the list of classes
pub class-bits-agree : (wrong : Bool) (set : ℕ) (ws vs cs : List ℕ) → map without_class ws ≡ map without_class vs
    → Pass wrong set ws cs vs cs → Agree sample_of wrong set ws cs vs cs
class-bits-agree wrong set ws vs cs e p =
    record { pass = p; named = ap (λ (l : List MotionSample). chosen set l cs) (class-plays-no-part ws vs e).samples }
