-- One law of bounded sums: where each term stands for a whole number of magnitude at most B over 2 ^ s, at most N of them, and N · B ≤ 2 ^ 53, no addition from +0 on rounds, so the fold
-- stands for the whole-number sum, nought as +0. The invariant is that what has been added and the room for what is left stay within 2 ^ 53; it holds at every part.
-- Assumes nothing.
use Prim.Native.Nat.{ℕ, zero, suc, ◌+◌, ◌*◌, ◌^◌, ◌≤◌}
use mathlib.Core.List.{List, [], ◌∷◌}
use mathlib.Core.Path.{refl}
use native.Mathlib.Nat.{mul-le-mul_right, suc-mul, zero-mul}
use native.Mathlib.Omega.{arith}
use lib.IntN.{ℤ, pos, nat_abs, ◌+ℤ◌, +ℤ_assoc, +ℤ_idl, +ℤ_idr}
use lib.ListN.{length, take, length-take}
use lib.Ieee.{Float, of_bits, fits}
use Rattle.laws.specs.Loops.{fold}
use Rattle.laws.specs.Binary64.{◌⊕◌, nought}
use Rattle.laws.proofs.Signed.{nat_abs-add-le}
use Rattle.laws.specs.Stands.{whole_limit, least_power, Stands, Bounded, Each, sum_of}
use Rattle.laws.proofs.Stands.{add-exact}

pub nought-stands : (s : ℕ) → Stands s (pos 0) nought
unfolding of_bits fits
nought-stands s = record { held = tt; value = (refl, zero-mul (2 ^ s)) }

pub each_take : {A : Type 0} (P : A → Type 0) (k : ℕ) (xs : List A) → Each P xs → Each P (take k xs)
each_take P zero xs e = tt
each_take P (suc k) [] e = tt
each_take P (suc k) (x ∷ xs) e = (e.0, each_take P k xs e.1)

pub each_map : {A : Type 0} (P Q : A → Type 0) → ((x : A) → P x → Q x) → (xs : List A) → Each P xs → Each Q xs
each_map P Q f [] e = tt
each_map P Q f (x ∷ xs) e = (f x e.0, each_map P Q f xs e.1)

module _ {A : Type 0} (s B : ℕ) (term : A → Float) (whole : A → ℤ) (low : s ≤ least_power) where
  abbrev Term : A → Type 0
  Term x = Bounded s B (whole x) (term x)

  sum-from : (xs : List A) (z : ℤ) (a : Float) → Stands s z a → nat_abs z + length xs * B ≤ whole_limit → Each Term xs
      → Stands s (z +ℤ sum_of whole xs) (fold (λ (t : Float) (x : A). t ⊕ term x) xs a)
  sum-from [] z a p l e = rw (+ℤ_idr z) p
  sum-from (x ∷ xs) z a p l e =
      let fits : nat_abs (z +ℤ whole x) + length xs * B ≤ whole_limit = omega (arith, nat_abs-add-le z (whole x), e.0.within, suc-mul (length xs) B) in
      rw (← +ℤ_assoc z (whole x) (sum_of whole xs))
      (sum-from xs (z +ℤ whole x) (a ⊕ term x)
      (add-exact low p e.0.stands (omega arith)) fits e.1)

  module _ (N : ℕ) (room : N * B ≤ whole_limit) where
    pub sum-exact : (xs : List A) → length xs ≤ N → Each Term xs → Stands s (sum_of whole xs) (fold (λ (t : Float) (x : A). t ⊕ term x) xs nought)
    sum-exact xs few e = rw (+ℤ_idl (sum_of whole xs)) at (sum-from xs (pos 0) nought (nought-stands s) (omega (arith, mul-le-mul_right B few)) e)

    -- and so has every part of it
    pub part-exact : (k : ℕ) (xs : List A) → length xs ≤ N → Each Term xs
        → Stands s (sum_of whole (take k xs)) (fold (λ (t : Float) (x : A). t ⊕ term x) (take k xs) nought)
    part-exact k xs few e = sum-exact (take k xs) (omega (arith, length-take k xs)) (each_take Term k xs e)
