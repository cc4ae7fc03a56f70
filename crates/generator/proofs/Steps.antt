-- Steps over any multiplier and increment: wrapping at each part of a step, at each step, or once at the end is the same; and steps add up.
-- Assumes nothing.
use Rattle.std.proofs.Common.{◌≡◌, ℕ, zero, suc, ◌+◌, ◌*◌, ◌/◌, ◌%◌, ◌^◌, sym, refl, ap, ◌∙◌, mul_assoc, suc-add, zero-add, mul-add}
use native.Mathlib.Nat.{mod-add-mod, add-mul-mod_self_right, mod-add-div'}
use Rattle.generator.specs.Generator.{times, stepped}

-- a wrapped factor
factor-wraps : (a s m : ℕ) → a * (s % m) % m ≡ a * s % m
factor-wraps a s m =
    sym (add-mul-mod_self_right (a * (s % m)) (a * (s / m)) m)
    ∙ ap (λ (t : ℕ). t % m) (ap (λ (t : ℕ). a * (s % m) + t) (mul_assoc a (s / m) m) ∙ sym (mul-add a (s % m) (s / m * m)) ∙ ap (λ (t : ℕ). a * t) (mod-add-div' s m))

module _ (a c : ℕ) where
  -- the product wrapped, and then the sum
  pub wrapped-twice : (s : ℕ) → (a * s % 2 ^ 32 + c) % 2 ^ 32 ≡ stepped a c s
  wrapped-twice s = mod-add-mod (a * s) (2 ^ 32) c

  stepped-wraps : (s : ℕ) → stepped a c (s % 2 ^ 32) ≡ stepped a c s
  stepped-wraps s =
      sym (wrapped-twice (s % 2 ^ 32))
      ∙ ap (λ (t : ℕ). (t + c) % 2 ^ 32) (factor-wraps a s (2 ^ 32))
      ∙ wrapped-twice s

  -- the state after i steps is that of the numbers that never wrap, wrapped once
  pub wraps_once : (i seed : ℕ) →
      times (stepped a c) (suc i) seed ≡ times (λ s. a * s + c) (suc i) seed % 2 ^ 32
  wraps_once zero seed = refl
  wraps_once (suc i) seed =
      ap (stepped a c) (wraps_once i seed) ∙ stepped-wraps (times (λ s. a * s + c) (suc i) seed)

-- i steps more after j, for any step
pub times-add : (f : ℕ → ℕ) (i j s : ℕ) → times f (i + j) s ≡ times f i (times f j s)
times-add f zero j s = ap (λ (k : ℕ). times f k s) (zero-add j)
times-add f (suc i) j s = ap (λ (k : ℕ). times f k s) (suc-add i j) ∙ ap f (times-add f i j s)
