-- A sum that a loop adds up term by term, with its bound.
-- Assumes nothing.
use Prim.Native.Nat.{ℕ, ◌+◌, ◌*◌, ◌≤◌, ◌<◌}
use mathlib.Core.Path.{◌≡◌, refl, sym, ap, subst, ◌∙◌}
use native.Mathlib.Omega.{arith}
use Rattle.laws.specs.Loops.{sum}
use Rattle.laws.proofs.Loops.{sum_step}
use Rattle.plane.specs.Inner.{Is}

-- s adds up the first i of n terms, each at most b
pub record Adds (f : ℕ → ℕ) (b n i s : ℕ) : Type 0 where
  pub within : i ≤ n
  pub same : s ≡ sum f i
  pub small : s ≤ b * i

pub none : (f : ℕ → ℕ) (b n : ℕ) → Adds f b n 0 0
none f b n = record { within = omega arith; same = refl; small = omega arith }

pub more : {f : ℕ → ℕ} {b n i s d : ℕ} → Adds f b n i s → i < n → d ≡ f i → d ≤ b → Adds f b n (i + 1) (s + d)
more {f} {b} {n} {i} a l e m = record { within = omega arith; same = rw (a.same, e) (sym (sum_step f i)); small = omega (arith, a.small) }

pub all : {f : ℕ → ℕ} {b n i s : ℕ} (m : ℕ) → Adds f b n i s → n ≤ i → b * n ≤ m → Is (sum f n) m s
all {f} {b} {n} {i} {s} m a l k =
    let e : i ≡ n = omega (arith, a.within) in
    record { same = a.same ∙ ap (sum f) e; small = let g : s ≤ b * n = subst (λ (j : ℕ). s ≤ b * j) e a.small in omega arith }
