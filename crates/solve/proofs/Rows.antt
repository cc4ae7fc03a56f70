-- What the steps of an elimination make of plain values: a row's factor, matrix and right side are one step of the system, a pivot that stands needs no exchange, and a refused column is the last.
-- Assumes nothing.
use Prim.Native.Nat.{ℕ, zero, suc, ◌-◌, ◌*◌, ◌+◌, ◌<◌}
use mathlib.Core.Bool.{Bool, true, false}
use mathlib.Core.List.{List}
use mathlib.Core.Path.{◌≡◌, refl, sym, ap, ◌∙◌}
use lib.ListN.{get_or, set}
use lib.Seq.{set-get_or}
use lib.Ieee.{Float, nan}
use Rattle.laws.specs.Loops.{run, turns}
use Rattle.laws.proofs.Loops.{again}
use Rattle.solve.specs.Elimination.{System, too_small, system, entry, pivot_of, exchange_at, exchanged_rows, exchange_right, exchanged, factor_of, reduced_row, reduce_right, reduce_row, reduced}
use Rattle.solve.specs.Elimination.{Outcome, solvable, singular, Elimination, eliminating, column, column_step}

-- ---- turns that change nothing

module _ {S : Type 0} (f : ℕ → S → S) (s : S) (stays : (i : ℕ) → f i s ≡ s) where
  turns-stay : (k i : ℕ) → turns f k i s ≡ s
  turns-stay zero i = refl
  turns-stay (suc k) i = ap (turns f k (suc i)) (stays i) ∙ turns-stay k (suc i)

  pub run-stays : (i n : ℕ) → run f i n s ≡ s
  unfolding run
  run-stays i n = turns-stay (n - i) i

-- ---- an exchange

-- what is written is what was there
twice_same : (l : List Float) (i : ℕ) → set (set l i (get_or l i nan)) i (get_or l i nan) ≡ l
twice_same l i = ap (λ (m : List Float). set m i (get_or l i nan)) (set-get_or l i nan) ∙ set-get_or l i nan

exchanged-itself : (size col : ℕ) (s : System) → exchanged size col col s ≡ s
unfolding exchanged_rows
exchanged-itself size col s =
    ap (λ (a : List Float). system a (exchange_right col col s.b)) (run-stays (exchange_at col col) s.a (λ k. twice_same s.a (col * 4 + k)) 0 size)
    ∙ ap (λ (b : List Float). system s.a b) (twice_same s.b col)

pub stands : (size col pivot : ℕ) (s : System) → pivot ≡ col → s ≡ exchanged size col pivot s
stands size col pivot s e = rw e (sym (exchanged-itself size col s))

pub both-exchanged : (size col pivot : ℕ) (a b : List Float) {a' b' : List Float} → a' ≡ exchanged_rows size col pivot a → b' ≡ exchange_right col pivot b
    → system a' b' ≡ exchanged size col pivot (system a b)
both-exchanged size col pivot a b e f = rw (e, f)

-- ---- a row

pub row-reduced : (size col row : ℕ) (a b : List Float) {a' b' : List Float} {r : Float} → r ≡ factor_of col row a → a' ≡ reduced_row size col row a → b' ≡ reduce_right col row r b
    → system a' b' ≡ reduce_row size col row (system a b)
row-reduced size col row a b e f g = rw (f, g, e)

-- ---- a column

module _ (size col pivot : ℕ) (s : System) {small : Bool} (found : pivot ≡ pivot_of size s.a col) (measured : small ≡ too_small (entry s.a pivot col)) where
  pub column-refused : small ≡ true → eliminating s singular ≡ column size col s
  unfolding column
  column-refused is = rw (← found, ← measured, is)

  pub column-passed : {t u : System} → small ≡ false → t ≡ exchanged size col pivot s → u ≡ reduced size col t → eliminating u solvable ≡ column size col s
  unfolding column
  column-passed is e f = rw (← found, ← measured, is, ← e, ← f)

-- ---- all columns

module _ (size col : ℕ) (s s' : System) {o : Outcome} {e : Elimination} (less : col < size) (stepped : eliminating s' o ≡ column size col s)
    (left : run (column_step size) col size (eliminating s solvable) ≡ e) where
  pub column-next : o ≡ solvable → run (column_step size) (col + 1) size (eliminating s' solvable) ≡ e
  column-next is = again (column_step size) less (ap (λ (p : Outcome). eliminating s' p) (sym is) ∙ stepped) left

  -- the later columns leave a refused elimination as it is
  pub column-last : o ≡ singular → eliminating s' singular ≡ e
  column-last is =
      sym (run-stays (column_step size) (eliminating s' singular) (λ k. refl) (col + 1) size)
      ∙ again (column_step size) less (ap (λ (p : Outcome). eliminating s' p) (sym is) ∙ stepped) left
