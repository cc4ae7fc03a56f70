-- k (k + 1) / 2 ^ 52 by the halves of k, each of them at most 2 ^ 27, so that no product leaves 64 bits; and the root that it finds.
-- Assumes nothing.
use Prim.Native.Nat.{ℕ, ◌+◌, ◌*◌, ◌/◌, ◌%◌, ◌^◌, ◌≤◌, ◌<◌}
use mathlib.Core.Path.{◌≡◌, sym, ap, ◌∙◌}
use native.Mathlib.Nat.{add_comm, mul-le-mul, add-mul-div_right, div-add-mod', mod-lt, div-div-eq-div-mul, div-lt_iff_lt-mul, le-div_iff_mul-le}
use native.Mathlib.Omega.{arith}
use Rattle.root.specs.Root.{nearest_root}
use Rattle.root.specs.Inner.{leading, Tall, middle}
use Rattle.root.proofs.Squares.{between-middles}

abbrev half : ℕ
half = 67108864

-- what the halves a and b make of k
abbrev pub by_halves : ℕ → ℕ → ℕ → ℕ
by_halves k a b = a * a + (2 * a * b + (b * b + k) / half) / half

twice-divided : (x y z w : ℕ) → w ≡ x + (y + z * half) * half → w / leading ≡ z + (y + x / half) / half
twice-divided x y z w e =
    let some : 0 < half = omega arith in
    ap (λ (t : ℕ). t / leading) e
    ∙ sym (div-div-eq-div-mul (x + (y + z * half) * half) half half)
    ∙ ap (λ (t : ℕ). t / half) (add-mul-div_right x (y + z * half) some)
    ∙ ap (λ (t : ℕ). t / half) (let e : x / half + (y + z * half) ≡ y + x / half + z * half = omega arith in e)
    ∙ add-mul-div_right (y + x / half) z some
    ∙ add_comm ((y + x / half) / half) z

product : (a b : ℕ) → (a * half + b) * (a * half + b + 1) ≡ b * b + (a * half + b) + (2 * a * b + a * a * half) * half
product a b = omega arith

pub middle-by-halves : (k : ℕ) → by_halves k (k / half) (k % half) ≡ middle k
unfolding middle
middle-by-halves k =
    let a = k / half in
    let b = k % half in
    sym
    (twice-divided (b * b + k) (2 * a * b) (a * a) (k * (k + 1))
    (ap (λ (t : ℕ). t * (t + 1)) (sym (div-add-mod' k half))
    ∙ product a b
    ∙ ap (λ (t : ℕ). b * b + t + (2 * a * b + a * a * half) * half) (div-add-mod' k half)))

pub record Small (a b : ℕ) : Type 0 where
  pub high : a * a ≤ 18014398509481984
  pub across : 2 * a * b ≤ 18014398509481984
  pub low : b * b ≤ 4503599627370496

pub small_halves : (k : ℕ) → k < 2 * leading → Small (k / half) (k % half)
small_halves k h =
    let a : k / half ≤ 134217728 = omega arith in
    let b : k % half ≤ 67108864 = omega arith in
    let twice : 2 * (k / half) ≤ 268435456 = omega arith in
    record { high = mul-le-mul a a; across = mul-le-mul twice b; low = mul-le-mul b b }

-- ---- the search

-- the root of t * 2 ^ 52 lies above low and no higher than high
pub record Bracket (t low high step : ℕ) : Type 0 where
  pub from : leading ≤ low + 1
  pub order : low < high
  pub to : high ≤ 2 * leading
  pub under : middle low < t
  pub reaches : t ≤ middle high
  pub short : step < leading

module _ {t : ℕ} (h : Tall t) where
  -- below every root, and above every root
  pub low_end : middle 4503599627370495 < t
  unfolding middle
  low_end = omega (arith, h.low)

  pub high_end : t ≤ middle 9007199254740992
  unfolding middle
  high_end = omega (arith, h.high)

  pub found : (low : ℕ) → middle low < t → t ≤ middle (low + 1) → nearest_root (t * leading) ≡ low + 1
  unfolding middle
  found low p q =
      let some : 0 < leading = omega arith in
      let l : low * (low + 1) < t * leading = (div-lt_iff_lt-mul some).0 p in
      let u : t * leading ≤ (low + 1) * (low + 1 + 1) = (le-div_iff_mul-le some).0 q in
      let small : t * leading < 4 ^ 53 = omega (arith, h.high) in
      between-middles (t * leading) low small (omega arith) (omega arith)

  module _ {low high step k : ℕ} (b : Bracket t low high step) (from : low < k) (to : k < high) where
    pub raised : middle k < t → Bracket t k high ((step + step) % leading)
    raised h =
        record { from = omega (arith, b.from); order = to; to = b.to; under = h; reaches = b.reaches; short = mod-lt (step + step) (omega arith) }

    pub lowered : t ≤ middle k → Bracket t low k ((step + step) % leading)
    lowered h =
        record { from = b.from; order = from; to = omega (arith, b.to); under = b.under; reaches = h; short = mod-lt (step + step) (omega arith) }
