-- Division rounded down of a signed number, as a shift makes it: whole steps move out of it.
-- Assumes nothing.
use Prim.Native.Nat.{ℕ, suc, ◌+◌, ◌*◌, ◌-◌, ◌/◌, ◌%◌, ◌≤◌, ◌<◌, suc-le-suc}
use mathlib.Core.Logic.{⊎_elim}
use mathlib.Core.Path.{◌≡◌, ap, ◌∙◌}
use native.Mathlib.Nat.{div-add-mod', mod-lt, add-mul, suc-mul, add-mul-div_right, div-lt_iff_lt-mul}
use native.Mathlib.Omega.{arith}
use lib.Arith.{digits_div}
use lib.IntN.{ℤ, pos, negsuc, sub_ℕ, ◌+ℤ◌}
use lib.Signed.{shr_z}
use Rattle.laws.proofs.Cases.{lt-or-le}
use Rattle.laws.proofs.Products.{row_fits}
use Rattle.laws.proofs.Signed.{subℕ-pos, subℕ-neg}

module _ (d : ℕ) (some : 0 < d) where
  -- the quotient of a number given by its digits
  quotient : (q r x : ℕ) → r < d → x ≡ q * d + r → x / d ≡ q
  quotient q r x h e = rw e (digits_div q h)

  up : (a n : ℕ) → (a + n * d) / d ≡ a / d + n
  up a n = add-mul-div_right a n some

  -- what n steps leave of a number that has at least so many, and of n steps what a number below them leaves
  left-over : (a n : ℕ) → n * d ≤ a → (n ≤ a / d) × ((a - n * d) / d ≡ a / d - n)
  left-over a n h =
      let small : n ≤ a / d = ⊎_elim (λ (l : a / d < n). absurd (omega (arith, row_fits d l, div-add-mod' a d, mod-lt a some))) (λ l. l) (lt-or-le (a / d) n) in
      let k = a / d - n in
      let whole : n + k ≡ a / d = omega arith in (
        small,
        quotient k (a % d) (a - n * d) (mod-lt a some)
            (omega (arith, div-add-mod' a d, add-mul n k d, ap (λ (t : ℕ). t * d) whole)),
      )

  short-of : (a n : ℕ) → a < n * d → (a / d < n) × ((n * d - suc a) / d ≡ n - suc (a / d))
  short-of a n h =
      let small : a / d < n = (div-lt_iff_lt-mul some).1 h in
      let k = n - suc (a / d) in
      let whole : suc (a / d) + k ≡ n = omega arith in (
        small,
        quotient k (d - suc (a % d)) (n * d - suc a) (omega (arith, mod-lt a some))
            (omega (arith, div-add-mod' a d, mod-lt a some, add-mul (suc (a / d)) k d, suc-mul (a / d) d, ap (λ (t : ℕ). t * d) whole)),
      )

  below-zero : (a n : ℕ) → shr_z (sub_ℕ (n * d) (suc a)) d ≡ sub_ℕ n (suc (a / d))
  below-zero a n =
      ⊎_elim
      (λ (l : a < n * d).
      let f = short-of a n l in
      rw (subℕ-pos (n * d) (suc a) l, subℕ-pos n (suc (a / d)) f.0) (ap pos f.1))
      (λ (l : n * d ≤ a).
      let f = left-over a n l in
      rw (subℕ-neg (n * d) (suc a) (suc-le-suc l), subℕ-neg n (suc (a / d)) (suc-le-suc f.0))
      (ap negsuc (ap (λ (t : ℕ). t / d) (let e : suc a - suc (n * d) ≡ a - n * d = omega arith in e) ∙ f.1 ∙ (let e : a / d - n ≡ suc (a / d) - suc n = omega arith in e))))
      (lt-or-le a (n * d))

  pub floor-steps : (x : ℤ) (n : ℕ) → shr_z (x +ℤ pos (n * d)) d ≡ shr_z x d +ℤ pos n
  floor-steps (pos a) n = ap pos (up a n)
  floor-steps (negsuc a) n = below-zero a n
