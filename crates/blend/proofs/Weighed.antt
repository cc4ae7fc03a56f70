-- Weighted sums of bytes stay within 16 bits.
-- Assumes nothing.
use Prim.Native.Nat.{ℕ, ◌+◌, ◌*◌, ◌-◌, ◌≤◌, ◌<◌}
use mathlib.Core.List.{List}
use mathlib.Core.Path.{◌≡◌, sym, ap, subst, ◌∙◌}
use native.Mathlib.Nat.{mul-add, mul-le-mul, mul-le-mul_right}
use native.Mathlib.Omega.{arith}
use lib.ListN.{length, get_or}
use Rattle.cost.specs.Inner.{AtMost, Fractions}
use Rattle.blend.specs.declared.Weights.{Weights}
use Rattle.blend.specs.Inner.{weights_of, weighed, Four, Weighs}

-- a weight, so many times
pub record Weight (times a b : ℕ) : Type 0 where
  pub once : a * b ≤ 64
  pub all_times : times * (a * b) ≤ 256

pub weight-small : (times a b : ℕ) → times ≤ 4 → a ≤ 8 → b ≤ 8 → Weight times a b
weight-small times a b l m n =
    let once : a * b ≤ 8 * 8 = mul-le-mul m n in
    record { once = once; all_times = let r : times * (a * b) ≤ 4 * 64 = mul-le-mul l once in r }

-- a term of a weighted sum
term-le : (a w : ℕ) → a ≤ 255 → a * w ≤ 255 * w
term-le a w l = mul-le-mul_right w l

-- the four weights are 64 in all, so many times
weights-sum : (fy fx : ℕ) → fy < 8 → fx < 8 → (8 - fy) * (8 - fx) + (8 - fy) * fx + (fy * (8 - fx) + fy * fx) ≡ 64
weights-sum fy fx l m =
    let g : 8 - fx + fx ≡ 8 = omega arith in
    let top : (8 - fy) * (8 - fx) + (8 - fy) * fx ≡ (8 - fy) * 8 = sym (mul-add (8 - fy) (8 - fx) fx) ∙ ap (λ (k : ℕ). (8 - fy) * k) g in
    let bottom : fy * (8 - fx) + fy * fx ≡ fy * 8 = sym (mul-add fy (8 - fx) fx) ∙ ap (λ (k : ℕ). fy * k) g in
    omega arith

pub weights-are : (times fy fx : ℕ) → fy < 8 → fx < 8 → (weights_of times fy fx).w00 + (weights_of times fy fx).w01 + (weights_of times fy fx).w10 + (weights_of times fy fx).w11 ≡ times * 64
weights-are times fy fx l m =
    let a = (8 - fy) * (8 - fx) in
    let b = (8 - fy) * fx in
    let c = fy * (8 - fx) in
    let d = fy * fx in
    let s : a + b + (c + d) ≡ 64 = weights-sum fy fx l m in
    let e : times * (a + b + (c + d)) ≡ times * a + times * b + (times * c + times * d) =
    mul-add times (a + b) (c + d) ∙ (ap (λ (k : ℕ). k + times * (c + d)) (mul-add times a b) ∙ ap (λ (k : ℕ). times * a + times * b + k) (mul-add times c d)) in
    let r : times * (a + b + (c + d)) ≡ times * 64 = ap (λ (k : ℕ). times * k) s in
    omega arith

pub weighs : (times n fy fx : ℕ) → times * 64 ≤ n → Fractions fy fx → Weighs n (weights_of times fy fx)
weighs times n fy fx l f = record { in_all = omega (arith, weights-are times fy fx f.fy_small f.fx_small) }

-- four bytes by weights
pub weighed-le : (n : ℕ) (w : Weights) (a b c d : ℕ) → Weighs n w → Four a b c d → weighed w a b c d ≤ 255 * n
weighed-le n w a b c d h f =
    let p : a * w.w00 ≤ 255 * w.w00 = term-le a w.w00 f.first in
    let q : b * w.w01 ≤ 255 * w.w01 = term-le b w.w01 f.second in
    let r : c * w.w10 ≤ 255 * w.w10 = term-le c w.w10 f.third in
    let s : d * w.w11 ≤ 255 * w.w11 = term-le d w.w11 f.fourth in
    let t : w.w00 + w.w01 + w.w10 + w.w11 ≤ n = h.in_all in
    omega arith

pub blend-fits : (times fy fx : ℕ) {w : Weights} {a b c d r : ℕ} → w ≡ weights_of times fy fx → r ≡ weighed w a b c d → Fractions fy fx → Four a b c d → r ≤ 255 * (times * 64)
blend-fits times fy fx {w} {a} {b} {c} {d} {r} e q f h =
    subst (λ (k : ℕ). k ≤ 255 * (times * 64)) (sym (q ∙ ap (λ (v : Weights). weighed v a b c d) e))
    (weighed-le (times * 64) (weights_of times fy fx) a b c d (weighs times (times * 64) fy fx (omega arith) f) h)

-- the bytes of a pel's four neighbours
pub four-at : {l : List ℕ} → AtMost 255 l → length l ≡ 41 → (j : ℕ) → j < 16 → Four (get_or l j 0) (get_or l (j + 1) 0) (get_or l (j + 24) 0) (get_or l (j + 24 + 1) 0)
four-at {l} h e j m =
    record {
      first = h.each j (omega arith);
      second = h.each (j + 1) (omega arith);
      third = h.each (j + 24) (omega arith);
      fourth = h.each (j + 24 + 1) (omega arith);
    }
