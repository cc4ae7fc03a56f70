-- A search through the numbers below a limit: none so far, one more that fails, one that holds.
-- Assumes nothing.
use Prim.Native.Nat.{ℕ, zero, suc, ◌+◌, ◌≤◌, ◌<◌, suc-le-suc}
use mathlib.Core.Bool.{Bool, true, false}
use mathlib.Core.Logic.{⊎_elim}
use mathlib.Core.Path.{◌≡◌, refl, sym, ap, ◌∙◌}
use native.Mathlib.Nat.{eq-or-lt_of_le, le_of_suc-le-suc, not-suc-le-zero, le_of_lt, le_refl, le_antisymm}
use native.Mathlib.Numerals.{add-one}
use Rattle.laws.specs.Refusal.{either}
use Rattle.laws.specs.Below.{any_below}
use Rattle.laws.proofs.Refusal.{neither}

either_true : (a : Bool) → either a true ≡ true
either_true true = refl
either_true false = refl

module _ (f : ℕ → Bool) where
  pub none_more : (n : ℕ) → any_below f n ≡ false → f n ≡ false → any_below f (n + 1) ≡ false
  none_more n e h = rw (add-one n, e, h)

  -- one that holds is found, whatever comes after it
  pub found : (n k : ℕ) → k < n → f k ≡ true → any_below f n ≡ true
  found zero k l h = absurd (not-suc-le-zero l)
  found (suc n) k l h =
      ⊎_elim
      (λ (e : k ≡ n). rw (ap f (sym e) ∙ h) (either_true (any_below f n)))
      (λ (m : k < n). rw (found n k m h))
      (eq-or-lt_of_le (le_of_suc-le-suc l))

  -- where none holds, each fails
  pub each-fails : (n : ℕ) → any_below f n ≡ false → (k : ℕ) → k < n → f k ≡ false
  each-fails zero e k l = absurd (not-suc-le-zero l)
  each-fails (suc n) e k l =
      ⊎_elim
      (λ (q : k ≡ n). ap f q ∙ (neither (any_below f n) (f n) e).1)
      (λ (m : k < n). each-fails n (neither (any_below f n) (f n) e).0 k m)
      (eq-or-lt_of_le (le_of_suc-le-suc l))

  -- and where each fails, none holds
  pub none-holds : (n : ℕ) → ((k : ℕ) → k < n → f k ≡ false) → any_below f n ≡ false
  none-holds zero h = refl
  none-holds (suc n) h = rw (none-holds n (λ k l. h k (le_of_lt (suc-le-suc l))), h n (le_refl (suc n)))

  -- the loop has passed them all
  pub ends : (n k : ℕ) → n ≤ k → k ≤ n → any_below f k ≡ false → any_below f n ≡ false
  ends n k h l e = rw (le_antisymm h l) e
