-- A loop that takes a step for each lent sample of a named class and for no other: what is left to fold, from here as from the first sample.
-- Assumes nothing.
use Prim.Native.Nat.{ℕ, ◌+◌, ◌≤◌, ◌<◌}
use mathlib.Core.Bool.{Bool, true, false}
use mathlib.Core.List.{List, [], ◌∷◌}
use mathlib.Core.Path.{◌≡◌, sym, ap, ◌∙◌}
use lib.ListN.{length, drop, get_or, drop_of_length-le}
use lib.Ieee.{Float}
use Rattle.laws.specs.Loops.{fold}
use Rattle.laws.specs.Refusal.{choose}
use Rattle.laws.proofs.Chosen.{chosen-step}
use Rattle.sample.specs.declared.MotionSample.{MotionSample}
use Rattle.fit.specs.Sums.{reading}
use Rattle.fit.proofs.SameSamples.{fold-map}
use Rattle.class_set.specs.Set.{names, chosen}
use Rattle.class_set.proofs.Chosen.{read-chosen}
use Rattle.named_samples.specs.Named.{lent_sample, named_samples}

module _ (set : ℕ) (fours : List (List Float)) (classes : List ℕ) where
  abbrev pub left_from : ℕ → List (List Float)
  left_from i = chosen set (drop i fours) (drop i classes)

  module _ (i : ℕ) (h : i < length fours) (k : i < length classes) where
    pub left-taken : names set (get_or classes i 0) ≡ true → left_from i ≡ get_or fours i [] ∷ left_from (i + 1)
    left-taken b =
        chosen-step (names set) fours classes i [] 0 h k ∙ ap (λ (t : Bool). choose t (get_or fours i [] ∷ left_from (i + 1)) (left_from (i + 1))) b

    pub left_passed : names set (get_or classes i 0) ≡ false → left_from i ≡ left_from (i + 1)
    left_passed b =
        chosen-step (names set) fours classes i [] 0 h k ∙ ap (λ (t : Bool). choose t (get_or fours i [] ∷ left_from (i + 1)) (left_from (i + 1))) b

  pub left-none : (i : ℕ) → length fours ≤ i → left_from i ≡ []
  left-none i h = ap (λ (l : List (List Float)). chosen set l (drop i classes)) (drop_of_length-le fours h)

  module _ {S : Type 0} (step : S → MotionSample → S) where
    abbrev pub fold_from : ℕ → S → S
    fold_from i s = fold (reading step lent_sample) (left_from i) s

    -- from the first, the fold over the named samples
    pub fold-named : (s : S) → fold_from 0 s ≡ fold step (named_samples set fours classes) s
    fold-named s =
        sym (fold-map step lent_sample (chosen set fours classes) s)
        ∙ ap (λ (l : List MotionSample). fold step l s) (sym (read-chosen lent_sample set fours classes))

    module _ (i : ℕ) (h : i < length fours) (k : i < length classes) {s s' t : S} where
      pub step-taken : names set (get_or classes i 0) ≡ true → s' ≡ step s (lent_sample (get_or fours i [])) → fold_from i s ≡ t → fold_from (i + 1) s' ≡ t
      step-taken b e r =
          ap (fold_from (i + 1)) e ∙ sym (ap (λ (l : List (List Float)). fold (reading step lent_sample) l s) (left-taken i h k b)) ∙ r

      pub step-passed : names set (get_or classes i 0) ≡ false → s' ≡ s → fold_from i s ≡ t → fold_from (i + 1) s' ≡ t
      step-passed b e r =
          ap (fold_from (i + 1)) e ∙ sym (ap (λ (l : List (List Float)). fold (reading step lent_sample) l s) (left_passed i h k b)) ∙ r

    pub steps-done : (i : ℕ) {s t : S} → length fours ≤ i → fold_from i s ≡ t → s ≡ t
    steps-done i {s} h r = sym (ap (λ (l : List (List Float)). fold (reading step lent_sample) l s) (left-none i h)) ∙ r
