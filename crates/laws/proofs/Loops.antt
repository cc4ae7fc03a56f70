-- The laws that a loop cites. The invariant says what is left: from here, as much is to be done as from the start.
-- Assumes nothing.
use Prim.Native.Nat.{ℕ, zero, suc, ◌+◌, ◌-◌, ◌≤◌, ◌<◌, suc-le-suc}
use mathlib.Core.List.{List, [], ◌∷◌, ◌++◌}
use mathlib.Core.Path.{◌≡◌, refl, sym, ap, ◌∙◌}
use native.Mathlib.Nat.{le_of_lt, le_refl}
use native.Mathlib.Numerals.{add-one}
use native.Mathlib.Omega.{arith}
use lib.ListN.{length, drop, get_or, drop_of_length-le}
use lib.Seq.{drop-cons}
use Rattle.laws.specs.Loops.{run, turns, fold, sum}

module _ {S : Type 0} (f : ℕ → S → S) where
  -- one turn more
  pub run_step : (i n : ℕ) (s : S) → i < n → run f i n s ≡ run f (i + 1) n (f i s)
  unfolding run
  run_step i n s h =
      rw (add-one i)
      (ap (λ (k : ℕ). turns f k i s) (let e : n - i ≡ suc (n - suc i) = omega arith in e))

  pub run_end : (i n : ℕ) (s : S) → n ≤ i → run f i n s ≡ s
  unfolding run
  run_end i n s h = ap (λ (k : ℕ). turns f k i s) (let e : n - i ≡ 0 = omega arith in e)

  pub again : {i n : ℕ} {s s' t : S} → i < n → s' ≡ f i s → run f i n s ≡ t → run f (i + 1) n s' ≡ t
  again {i} {n} {s} h e r = rw e (sym (run_step i n s h) ∙ r)

  pub done : {i n : ℕ} {s t : S} → n ≤ i → run f i n s ≡ t → s ≡ t
  done {i} {n} {s} h r = sym (run_end i n s h) ∙ r

module _ {A S : Type 0} (f : S → A → S) where
  -- the element at i, then the rest
  pub fold_step : (l : List A) (i : ℕ) (d : A) (s : S) → i < length l → fold f (drop i l) s ≡ fold f (drop (i + 1) l) (f s (get_or l i d))
  fold_step l i d s h = rw (add-one i, drop-cons l i d) refl

  pub fold_end : (l : List A) (i : ℕ) (s : S) → length l ≤ i → fold f (drop i l) s ≡ s
  fold_end l i s h = rw (drop_of_length-le l h)

  pub fold-append : (l m : List A) (s : S) → fold f (l ++ m) s ≡ fold f m (fold f l s)
  fold-append [] m s = refl
  fold-append (x ∷ l) m s = fold-append l m (f s x)

pub sum_step : (f : ℕ → ℕ) (n : ℕ) → sum f (n + 1) ≡ sum f n + f n
sum_step f n = rw (add-one n)

-- equal terms, equal sums
pub sum_same : (f g : ℕ → ℕ) (n : ℕ) → ((i : ℕ) → i < n → f i ≡ g i) → sum f n ≡ sum g n
sum_same f g zero h = refl
sum_same f g (suc n) h = rw (sum_same f g n (λ i l. h i (le_of_lt (suc-le-suc l))), h n (le_refl (suc n)))
