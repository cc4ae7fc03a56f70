-- An accepted call gives its answer and leaves what it wrote; a refused one gives its number and leaves what was there.
-- Assumes nothing.
use Prim.Native.Nat.{ℕ}
use mathlib.Core.Path.{◌≡◌}
use borrow.Author.Tests.{ne_eqb}
use Rattle.laws.specs.Call.{answered, left}

module _ {A : Type 0} where
  pub answered-accepted : (refused : ℕ → A) (n : ℕ) (a : A) → n ≡ 0 → answered refused n a ≡ a
  answered-accepted refused n a e = rw e

  pub answered-refused : (refused : ℕ → A) (n : ℕ) (a : A) → (n ≡ 0 → ⊥) → answered refused n a ≡ refused n
  answered-refused refused n a h = rw (ne_eqb n 0 h)

  pub left-accepted : (n : ℕ) (new old : A) → n ≡ 0 → left n new old ≡ new
  left-accepted n new old e = rw e

  pub left-refused : (n : ℕ) (new old : A) → (n ≡ 0 → ⊥) → left n new old ≡ old
  left-refused n new old h = rw (ne_eqb n 0 h)
