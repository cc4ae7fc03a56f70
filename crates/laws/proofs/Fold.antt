-- The laws that a loop over a list cites. The invariant says what is left: from here, as much is to be folded as from the start.
-- Assumes nothing.
use Prim.Native.Nat.{ℕ, ◌+◌, ◌≤◌, ◌<◌}
use mathlib.Core.List.{List}
use mathlib.Core.Path.{◌≡◌, sym, ◌∙◌}
use lib.ListN.{length, drop, get_or}
use Rattle.laws.specs.Loops.{fold}
use Rattle.laws.proofs.Loops.{fold_step, fold_end}

module _ {A S : Type 0} (f : S → A → S) (l : List A) (i : ℕ) where
  pub fold-again : (d : A) {s s' t : S} → i < length l → s' ≡ f s (get_or l i d) → fold f (drop i l) s ≡ t → fold f (drop (i + 1) l) s' ≡ t
  fold-again d {s} h e r = rw e (sym (fold_step f l i d s h) ∙ r)

  pub fold_done : {s t : S} → length l ≤ i → fold f (drop i l) s ≡ t → s ≡ t
  fold_done {s} h r = sym (fold_end f l i s h) ∙ r
