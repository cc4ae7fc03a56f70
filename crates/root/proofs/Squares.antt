-- Roots of whole numbers by their squares: no whole number has its root in the middle between two, one is nearest, and it rises with the number.
-- Assumes nothing.
use Prim.Native.Nat.{ℕ, zero, suc, ◌+◌, ◌-◌, ◌*◌, ◌/◌, ◌^◌, ◌≤◌, ◌<◌}
use mathlib.Core.Bool.{Bool, true, false, cond}
use mathlib.Core.Logic.{⊎_elim}
use mathlib.Core.Path.{◌≡◌, refl, subst}
use native.Mathlib.Nat.{le_antisymm, add-sub_of_le, mul-le-mul, pow-suc, div-lt_iff_lt-mul}
use native.Mathlib.Omega.{arith}
use borrow.Author.Tests.{leb-true, leb-false}
use lib.Dec.{leb}
use Rattle.laws.proofs.Cases.{lt-or-le}
use Rattle.laws.proofs.Products.{quotient-low, quotient-high}
use Rattle.root.specs.Root.{floor_root, nearest_root}

-- ---- the greatest number whose square is no more

pub record Floor (n k : ℕ) : Type 0 where
  pub low : k * k ≤ n
  pub high : n < (k + 1) * (k + 1)

module _ (j q n : ℕ) (low : j * j ≤ q) (high : q < (j + 1) * (j + 1)) (from : q * 4 ≤ n) (to : n < q * 4 + 4) where
  doubled-low : 2 * j * (2 * j) ≤ n
  doubled-low = omega arith

  doubled-high : n < (2 * j + 2) * (2 * j + 2)
  doubled-high = omega arith

next-digit : (k n : ℕ) → k * k ≤ n → n < (k + 2) * (k + 2) → (b : Bool) → leb ((k + 1) * (k + 1)) n ≡ b → Floor n (cond b (k + 1) k)
next-digit k n low high true e = record { low = leb-true ((k + 1) * (k + 1)) n e; high = omega arith }
next-digit k n low high false e = record { low = low; high = leb-false ((k + 1) * (k + 1)) n e }

pub floor-root : (digits n : ℕ) → n < 4 ^ digits → Floor n (floor_root digits n)
unfolding floor_root
floor-root zero n h = record { low = omega arith; high = omega arith }
floor-root (suc digits) n h =
    let q = n / 4 in
    let four : 0 < 4 = omega arith in
    let less : q < 4 ^ digits = (div-lt_iff_lt-mul four).1 (subst (λ (x : ℕ). n < x) (pow-suc 4 digits) h) in
    let f = floor-root digits q less in
    let j = floor_root digits q in
    let k = 2 * j in
    let from : q * 4 ≤ n = quotient-low n four in
    let to : n < q * 4 + 4 = quotient-high n four in
    next-digit k n (doubled-low j q n f.low f.high from to) (doubled-high j q n f.low f.high from to) (leb ((k + 1) * (k + 1)) n) refl

-- ---- the nearest number

-- the root of n lies between k - 1/2 and k + 1/2
pub record Nearest (n k : ℕ) : Type 0 where
  pub low : k * k < n + k
  pub high : n ≤ k * k + k

nearer : (n f : ℕ) → 0 < n → Floor n f → (b : Bool) → leb n (f * f + f) ≡ b → Nearest n (cond b f (f + 1))
nearer n zero some h true e = record { low = omega (arith, h.high); high = leb-true n 0 e }
nearer n (suc f) some h true e = record { low = omega (arith, h.low); high = leb-true n (suc f * suc f + suc f) e }
nearer n f some h false e = record { low = omega (arith, leb-false n (f * f + f) e); high = omega (arith, h.high) }

pub nearest-root : (n : ℕ) → 0 < n → n < 4 ^ 53 → Nearest n (nearest_root n)
unfolding nearest_root
nearest-root n some h = let f = floor_root 53 n in nearer n f some (floor-root 53 n h) (leb n (f * f + f)) refl

-- the middles rise
apart : (v i : ℕ) → v * v + v + (suc v + i) ≤ (suc v + i) * (suc v + i)
apart v i = omega arith

middles-rise : {v k : ℕ} → v < k → v * v + v + k ≤ k * k
middles-rise {v} {k} h = subst (λ (x : ℕ). v * v + v + x ≤ x * x) (add-sub_of_le h) (apart v (k - suc v))

module _ {n k : ℕ} (near : Nearest n k) where
  pub at_most : (v : ℕ) → n ≤ v * v + v → k ≤ v
  at_most v h = ⊎_elim (λ (l : v < k). absurd (omega (arith, near.low, middles-rise l))) (λ l. l) (lt-or-le v k)

  pub above : (v : ℕ) → v * v + v < n → v < k
  above v h = ⊎_elim (λ l. l) (λ (l : k ≤ v). absurd (omega (arith, near.high, mul-le-mul l l))) (lt-or-le v k)

  -- no ties: twice the number below and twice the number above are odd, so four times n is neither one's square
  pub low-square : (2 * k - 1) * (2 * k - 1) < 4 * n
  low-square = lowered k near.low
    where
      lowered : (k : ℕ) → k * k < n + k → (2 * k - 1) * (2 * k - 1) < 4 * n
      lowered zero h = omega arith
      lowered (suc k) h = subst (λ (x : ℕ). x * x < 4 * n) (let e : 2 * k + 1 ≡ 2 * suc k - 1 = omega arith in e) (omega arith)

  pub high-square : 4 * n < (2 * k + 1) * (2 * k + 1)
  high-square = omega (arith, near.high)

pub rising : {n n' k k' : ℕ} → Nearest n k → Nearest n' k' → n ≤ n' → k ≤ k'
rising {n} {n'} {k} {k'} p q h = at_most p k' (omega (arith, q.high))

-- only one number is nearest
pub only_one : {n k k' : ℕ} → Nearest n k → Nearest n k' → k ≡ k'
only_one {n} p q = le_antisymm (rising p q (omega arith)) (rising q p (omega arith))

-- and only one has those squares about it
from-squares : {n : ℕ} (k : ℕ) → 0 < n → (2 * k - 1) * (2 * k - 1) < 4 * n → 4 * n < (2 * k + 1) * (2 * k + 1) → Nearest n k
from-squares {n} zero some l h = absurd (omega arith)
from-squares {n} (suc k) some l h =
    let odd : 2 * suc k - 1 ≡ 2 * k + 1 = omega arith in
    let low : (2 * k + 1) * (2 * k + 1) < 4 * n = subst (λ (x : ℕ). x * x < 4 * n) odd l in
    record { low = omega arith; high = omega arith }

pub only-one-between-squares : (n k : ℕ) → 0 < n → n < 4 ^ 53 → (2 * k - 1) * (2 * k - 1) < 4 * n → 4 * n < (2 * k + 1) * (2 * k + 1) → k ≡ nearest_root n
only-one-between-squares n k some small l h = only_one (from-squares k some l h) (nearest-root n some small)

-- a number between two middles that follow each other
pub between-middles : (n low : ℕ) → n < 4 ^ 53 → low * low + low < n → n ≤ (low + 1) * (low + 1) + (low + 1) → nearest_root n ≡ low + 1
between-middles n low small l h = only_one (nearest-root n (omega arith) small) (record { low = omega arith; high = h })
