-- Items that come round again: where the first round has one, there are as many as are taken.
-- Assumes nothing.
use mathlib.Core.Logic.{inl, inr}
use Rattle.std.proofs.Common.{◌≡◌, ℕ, List, [], ◌∷◌, length, Option, None, Some, MatchOption, IfOk, Result, Ok, Err, arith, Bor, vec_len}
use Rattle.std.proofs.Math.Nat.{eq-zero-or-pos}
use Rattle.std.proofs.lemmas.Option.{none-some}
use Rattle.std.proofs.lemmas.Iterator.{IsCollectResult}
use Rattle.std.specs.Iterator.{Yields}
use Rattle.std.specs.Iterator.Adapters.{cycle_start, cycle_source, cycle_steps, take_source, take_count, take_steps}
use Rattle.std.specs.declared.iter.Cycle.{Cycle}
use Rattle.std.specs.declared.iter.Take.{Take}
use Rattle.std.specs.declared.slice.Iter.{Iter}
use Rattle.std.specs.declared.vec.Vec.{Vec}
use Rattle.std.specs.Option.{option_copied}
use Rattle.std.specs.Slice.Iter.{iter_rest, iter_steps}

-- a round that ends begins anew, with an item
goes-on : {S A : Type 0} (steps : S → Option A → S → Type 0) (Anew : S → Type 0) (o : Option A) (u t : S) → ((j k : S) → Anew j → ¬ (steps j None k)) → ¬ (MatchOption o ((j : S) × Anew j × steps j None t) (λ x. (None ≡ Some x) × (t ≡ u)))
goes-on steps Anew None u t full h = full h.0 t h.1 h.2
goes-on steps Anew (Some x) u t full h = none-some x h.0

ended : {S A : Type 0} (steps : S → Option A → S → Type 0) (clones : S → S → Type 0) (t u : Take (Cycle S)) → ((j k : S) → clones (cycle_start (take_source t)) j → ¬ (steps j None k)) → take_steps (cycle_steps steps clones) t None u → 0 ≡ take_count t
ended steps clones t u full n = elim (eq-zero-or-pos (take_count t)) [ inl z ↦ omega (arith, z) | inr m ↦ absurd (let h = (n m).1 in goes-on steps (clones (cycle_start (take_source t))) h.0 h.1 (cycle_source (take_source u)) full h.3) ]

-- what was taken when nothing more came
pub taken : {S A : Type 0} (steps : S → Option A → S → Type 0) (clones : S → S → Type 0) (xs : List A) (s t u : Take (Cycle S)) → ((j k : S) → clones (cycle_start (take_source s)) j → ¬ (steps j None k)) → Yields (take_steps (cycle_steps steps clones)) s xs t → take_steps (cycle_steps steps clones) t None u → length xs ≡ take_count s
taken steps clones [] s t u full y n = rw y (ended steps clones t u (rw (← y) full) n)
taken steps clones (x ∷ xs) s t u full y n = omega (arith, y.1.1, taken steps clones xs y.0 t u (rw (y.1.0.0) full) y.2 n)

-- a vector of them
pub length-collected : {S A Z E : Type 0} (steps : S → Option A → S → Type 0) (clones : S → S → Type 0) (s : Take (Cycle S)) (r : Result (Vec A Z) E) (n : ℕ) → IsCollectResult (take_steps (cycle_steps steps clones)) s r → ((j k : S) → clones (cycle_start (take_source s)) j → ¬ (steps j None k)) → take_count s ≡ n → IfOk r (λ w. vec_len w ≡ n)
length-collected steps clones s (Ok w) n h full k = let end = h.1.2 tt in omega (arith, k, h.2.1, taken steps clones h.0 s h.1.0 end.0 full h.1.1 end.1)
length-collected steps clones s (Err e) n h full k = tt

-- copies of a slice's items end where none are left
pub copies-end : {A : Type 0} (o : Option (Bor A)) (j k : Iter A) → iter_steps j o k → None ≡ option_copied o → length (iter_rest j) ≡ 0
copies-end None j k h e = h.0
copies-end (Some x) j k h e = absurd (none-some _ e)
