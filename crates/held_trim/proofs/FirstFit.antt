-- Before the first fit every square is 0.0, so every sample is under 0.0: the fit of those is the fit of all.
-- Assumes nothing.
use Prim.Native.Nat.{ℕ, ◌≤◌}
use mathlib.Core.List.{List}
use mathlib.Core.Path.{◌≡◌, sym, ap, ◌∙◌}
use native.Mathlib.Omega.{arith}
use lib.ListN.{length, length-replicate}
use lib.Ieee.{Float}
use Rattle.laws.specs.Binary64.{nought}
use Rattle.laws.specs.Buffer.{onto}
use Rattle.sample.specs.declared.MotionSample.{MotionSample}
use Rattle.sample.specs.Word.{most_samples}
use Rattle.fit.specs.declared.Fitted.{Fitted}
use Rattle.fit.specs.Fitted.{refusal_of, fit_from}
use Rattle.trim.specs.Trim.{first_from}
use Rattle.trim.specs.Inner.{sample_at, up_to, squares_from, under, Under, Untrimmed, Squared}
use Rattle.trim.proofs.Indices.{length-up_to}
use Rattle.trim.proofs.Under.{clear-under}

module _ (given : List MotionSample) (gm_type n : ℕ) (squares : List Float) (u : Untrimmed gm_type n squares) where
  abbrev read : ℕ → MotionSample
  read = sample_at given

  long : length squares ≡ most_samples
  long = ap (λ (l : List Float). length l) u.clear ∙ length-replicate most_samples nought

  pub room : n ≤ length squares
  room = omega (arith, long, u.few)

  all : under squares nought n ≡ up_to n
  all = ap (λ (l : List Float). under l nought n) u.clear ∙ clear-under most_samples n u.few

  pub all-under-nought : Under squares nought n n
  all-under-nought =
      record { few = u.few; long = room; counted = sym (ap (λ (l : List ℕ). length l) all ∙ length-up_to n) }

  module _ (f : Fitted) (e : f ≡ fit_from read gm_type (under squares nought n)) where
    pub first-is : f ≡ first_from read gm_type (up_to n)
    first-is = e ∙ ap (λ (l : List ℕ). fit_from read gm_type l) all

    pub squared : refusal_of f ≡ 0 → (after : List Float) → after ≡ onto (squares_from read f (up_to n)) squares → Squared given gm_type n after f
    squared q after h =
        record {
          few = u.few;
          enough = u.enough;
          is = first-is;
          fitted = sym (ap refusal_of first-is) ∙ q;
          old = squares;
          long = long;
          squared = h ∙ ap (λ (g : Fitted). onto (squares_from read g (up_to n)) squares) first-is;
        }
