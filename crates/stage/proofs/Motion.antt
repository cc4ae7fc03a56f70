-- Laws of biased offsets that the stages and their ranges rest on.
-- Assumes nothing.
use Prim.Native.Nat.{ℕ, zero, suc, ◌+◌, ◌*◌}
use mathlib.Core.Path.{◌≡◌, sym, ap, ◌∙◌}
use native.Mathlib.Omega.{arith}
use lib.IntN.{ℤ, pos, negsuc, ◌+ℤ◌, ◌*ℤ◌, neg_ℤ}
use Rattle.plane.specs.Clamp.{offset}
use Rattle.plane.proofs.Offsets.{offset-cases, offset-pos, offset-neg, offset-add}

-- two biased numbers stand for one offset
pub offset-same : (a m b n : ℕ) → m + b ≡ n + a → offset a m ≡ offset b n
offset-same a m b n e =
    offset-cases b n (λ z. offset a m ≡ z)
    (λ k q. offset-neg a m k (omega arith))
    (λ k q. offset-pos a m k (omega arith))

-- the natural number behind a biased offset
abbrev pub low : ℤ → ℕ
low (pos n) = n
low (negsuc n) = zero

pub offset-back : (b n : ℕ) → low (offset b n +ℤ pos b) ≡ n
offset-back b n =
    ap (λ (z : ℤ). low (offset b n +ℤ z)) (sym (offset-pos 0 b b (omega arith)))
    ∙ (ap low (offset-add b n 0 b) ∙ ap low (offset-pos (b + 0) (n + b) n (omega arith)))

-- twice an offset
pub offset-twice : (b n : ℕ) → pos 2 *ℤ offset b n ≡ offset (2 * b) (2 * n)
offset-twice b n =
    offset-cases b n (λ z. pos 2 *ℤ z ≡ offset (2 * b) (2 * n))
    (λ k e. sym (offset-neg (2 * b) (2 * n) (2 * k + 1) (omega arith) ∙ ap (λ (i : ℕ). neg_ℤ (pos i)) (let q : suc (2 * k + 1) ≡ 2 * suc k = omega arith in q)))
    (λ k e. sym (offset-pos (2 * b) (2 * n) (2 * k) (omega arith)))

-- eight times an offset
pub offset-eightfold : (b n : ℕ) → pos 8 *ℤ offset b n ≡ offset (8 * b) (8 * n)
offset-eightfold b n =
    offset-cases b n (λ z. pos 8 *ℤ z ≡ offset (8 * b) (8 * n))
    (λ k e. sym (offset-neg (8 * b) (8 * n) (8 * k + 7) (omega arith) ∙ ap (λ (i : ℕ). neg_ℤ (pos i)) (let q : suc (8 * k + 7) ≡ 8 * suc k = omega arith in q)))
    (λ k e. sym (offset-pos (8 * b) (8 * n) (8 * k) (omega arith)))

-- eight times an offset biased by 27, biased by 223
pub eightfold-stored : (n : ℕ) {z : ℤ} → offset 27 n ≡ z → offset 223 (8 * n + 7) ≡ pos 8 *ℤ z
eightfold-stored n e = offset-same 223 (8 * n + 7) 216 (8 * n) (omega arith) ∙ (sym (offset-eightfold 27 n) ∙ ap (λ (z : ℤ). pos 8 *ℤ z) e)
