-- Signed offsets as biased natural numbers: an offset has one or the other sign, and sums and magnitudes go over.
-- Assumes nothing.
use Prim.Native.Nat.{ℕ, zero, suc, ◌+◌, ◌-◌}
use mathlib.Core.Bool.{Bool, true, false, cond, not}
use mathlib.Core.Path.{◌≡◌, refl, sym, ap, subst}
use native.Mathlib.Omega.{arith}
use lib.Dec.{T, ltb, ltb→lt, nltb→le}
use lib.IntN.{ℤ, pos, negsuc, ◌+ℤ◌, sub_ℕ, nat_abs}
use Rattle.plane.specs.Clamp.{offset}
use Rattle.plane.specs.Difference.{difference}

by-test : (t : Bool) (x y : ℤ) (P : ℤ → Type 0) → (T t → P x) → (T (not t) → P y) → P (cond t x y)
by-test true x y P f g = f tt
by-test false x y P f g = g tt

-- a - b is negative or not
pub sub_cases : (a b : ℕ) (P : ℤ → Type 0) → ((k : ℕ) → b ≡ a + suc k → P (negsuc k)) → ((k : ℕ) → a ≡ b + k → P (pos k)) → P (sub_ℕ a b)
sub_cases a b P f g =
    by-test (ltb a b) (negsuc (b - suc a)) (pos (a - b)) P
    (λ t. let l = ltb→lt a b t in f (b - suc a) (omega arith))
    (λ t. let l = nltb→le a b t in g (a - b) (omega arith))

offset-sub : (b n : ℕ) → offset b n ≡ sub_ℕ n b
unfolding offset
offset-sub zero n =
    sub_cases n zero (λ z. pos (n + zero) ≡ z)
    (λ k e. absurd (let z : ◌≡◌ {A = ℕ} zero (suc k) = omega arith in omega arith))
    (λ k e. ap pos (let z : n + zero ≡ k = omega arith in z))
offset-sub (suc b) n = refl

pub offset-cases : (b n : ℕ) (P : ℤ → Type 0) → ((k : ℕ) → b ≡ n + suc k → P (negsuc k)) → ((k : ℕ) → n ≡ b + k → P (pos k)) → P (offset b n)
offset-cases b n P f g = subst P (sym (offset-sub b n)) (sub_cases n b P f g)

pub offset-pos : (b n k : ℕ) → n ≡ b + k → offset b n ≡ pos k
offset-pos b n k e =
    offset-cases b n (λ z. z ≡ pos k)
    (λ m q. absurd (let z : suc m + k ≡ 0 = omega arith in omega arith))
    (λ m q. ap pos (let z : m ≡ k = omega arith in z))

pub offset-neg : (b n k : ℕ) → b ≡ n + suc k → offset b n ≡ negsuc k
offset-neg b n k e =
    offset-cases b n (λ z. z ≡ negsuc k)
    (λ m q. ap negsuc (let z : m ≡ k = omega arith in z))
    (λ m q. absurd (let z : suc k + m ≡ 0 = omega arith in omega arith))

pub offset-magnitude : (b n : ℕ) → nat_abs (offset b n) ≡ difference n b
offset-magnitude b n =
    offset-cases b n (λ z. nat_abs z ≡ difference n b)
    (λ k e. let z : suc k ≡ difference n b = omega arith in z)
    (λ k e. let z : k ≡ difference n b = omega arith in z)

-- the sum of two offsets has the sum of the biases
pub offset-add : (a m b n : ℕ) → offset a m +ℤ offset b n ≡ offset (a + b) (m + n)
offset-add a m b n =
    offset-cases a m (λ z. z +ℤ offset b n ≡ offset (a + b) (m + n))
    (λ k e. offset-cases b n (λ z. negsuc k +ℤ z ≡ offset (a + b) (m + n))
    (λ l q. sym (offset-neg (a + b) (m + n) (suc (k + l)) (omega arith)))
    (λ l q. sub_cases l (suc k) (λ z. z ≡ offset (a + b) (m + n))
    (λ i p. sym (offset-neg (a + b) (m + n) i (omega arith)))
    (λ i p. sym (offset-pos (a + b) (m + n) i (omega arith)))))
    (λ k e. offset-cases b n (λ z. pos k +ℤ z ≡ offset (a + b) (m + n))
    (λ l q. sub_cases k (suc l) (λ z. z ≡ offset (a + b) (m + n))
    (λ i p. sym (offset-neg (a + b) (m + n) i (omega arith)))
    (λ i p. sym (offset-pos (a + b) (m + n) i (omega arith))))
    (λ l q. sym (offset-pos (a + b) (m + n) (k + l) (omega arith))))
