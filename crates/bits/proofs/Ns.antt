-- ns(n): what was written is read back and takes its bits, what is read is a symbol, and its code is the bits that were read:
-- below the count of shorter codes w - 1 bits are the number, otherwise one bit more makes it.
-- Assumes nothing.
use Prim.Native.Nat.{ℕ, suc, ◌+◌, ◌-◌, ◌*◌, ◌^◌, ◌≤◌, ◌<◌}
use mathlib.Core.Bool.{Bool, true, false}
use mathlib.Core.List.{List}
use mathlib.Core.Path.{◌≡◌, refl, ap, sym, ◌∙◌, subst}
use native.Mathlib.Decide.{dec_lt}
use native.Mathlib.Nat.{pow-suc}
use native.Mathlib.Omega.{arith}
use borrow.Author.Tests.{lt-ltb, le-ltb}
use lib.Dec.{ltb}
use lib.ListN.{length}
use Rattle.laws.specs.Refusal.{choose}
use Rattle.bits.specs.Fields.{field, field_bits}
use Rattle.bits.specs.Ns.{bit_length, short_codes, ns_bits, ns}
use Rattle.bits.proofs.Held.{Holds, AreBits}
use Rattle.bits.proofs.Fields.{length-field_bits, field_bits-are-bits, field-read, field_lt, field-last, field-again}
use Rattle.bits.proofs.BitLength.{Length, bit_length-length, bit_length-step}

-- the arms of the definitions, for w and m computed beforehand
module _ (n v w m : ℕ) (ew : w ≡ bit_length n) (em : m ≡ short_codes n) where
  pub short-code : v < m → ns_bits n v ≡ field_bits (w - 1) v
  unfolding ns_bits
  short-code h = rw (← em, lt-ltb v m h, ew)

  pub long-code : m ≤ v → ns_bits n v ≡ field_bits w (v + m)
  unfolding ns_bits
  long-code h = rw (← em, le-ltb v m h, ew)

  module _ (g : ℕ → ℕ) (j : ℕ) (ev : v ≡ field g j (w - 1)) where
    pub short-read : v < m → ns g j n ≡ record { value = v; bits = w - 1 }
    unfolding ns
    short-read h = rw (← em, ← ew, ← ev, lt-ltb v m h)

    pub long-read : (b : ℕ) → b ≡ g (j + (w - 1)) → m ≤ v → ns g j n ≡ record { value = 2 * v - m + b; bits = w }
    unfolding ns
    long-read b eb h = rw (← em, ← ew, ← ev, le-ltb v m h, eb)

-- the length of n is at least 1, and n lies between the powers of two about it
record Widths (n : ℕ) : Type 0 where
  whole : suc (bit_length n - 1) ≡ bit_length n
  twice : 2 ^ bit_length n ≡ 2 ^ (bit_length n - 1) * 2
  over : n < 2 ^ bit_length n
  under : 2 ^ bit_length n ≤ 2 * n

widths : (n : ℕ) → 0 < n → Widths n
widths n pos =
    let h : Length n (bit_length n) = bit_length-length n in
    let whole : suc (bit_length n - 1) ≡ bit_length n = omega (arith, bit_length-step n pos) in
    record { whole = whole; twice = ap (λ (m : ℕ). 2 ^ m) (sym whole) ∙ pow-suc 2 (bit_length n - 1); over = h.below; under = h.least pos }

-- the number of a code has no bit above the code's width
module _ (n v w m : ℕ) (ew : w ≡ bit_length n) (em : m ≡ short_codes n) (h : v < n) where
  pub short-low : v < m → v < 2 ^ (w - 1)
  short-low l = let s = widths n (omega arith) in rw ew (omega (arith, em, s.twice, s.under))

  pub long-low : v + m < 2 ^ w
  long-low = let s = widths n (omega arith) in rw ew (omega (arith, em, s.over))

module _ (g : ℕ → ℕ) (bits : (i : ℕ) → g i < 2) (j n : ℕ) (pos : 0 < n) where
  abbrev w : ℕ
  w = bit_length n

  abbrev m : ℕ
  m = short_codes n

  abbrev first : ℕ
  first = field g j (w - 1)

  -- the whole of the longer code: what was read first, and one bit more
  last_bit : field g j w ≡ 2 * first + g (j + (w - 1))
  last_bit = subst (λ (k : ℕ). field g j k ≡ 2 * first + g (j + (w - 1))) (widths n pos).whole (field-last g j (w - 1))

  pub ns-read : (v : ℕ) → v < n → Holds g j (ns_bits n v) → ns g j n ≡ record { value = v; bits = length (ns_bits n v) }
  ns-read v l h =
      let s = widths n pos in
      elim (dec_lt v m) [
        | yes l ↦
            let e : ns_bits n v ≡ field_bits (w - 1) v = short-code n v w m refl refl l in
            let f : first ≡ v = field-read g j (w - 1) v (omega (arith, s.under, s.twice)) (subst (Holds g j) e h) in
            rw (e, length-field_bits (w - 1) v) (short-read n v w m refl refl g j (sym f) l)
        | no a ↦
            let e : ns_bits n v ≡ field_bits w (v + m) = long-code n v w m refl refl (omega arith) in
            let f : field g j w ≡ v + m = field-read g j w (v + m) (omega (arith, s.over)) (subst (Holds g j) e h) in
            let x : 2 * first - m + g (j + (w - 1)) ≡ v = omega (arith, last_bit, bits (j + (w - 1))) in
            rw (e, length-field_bits w (v + m))
            (subst (λ (x : ℕ). ns g j n ≡ record { value = x; bits = w }) x
            (long-read n first w m refl refl g j refl (g (j + (w - 1))) refl (omega (arith, last_bit, bits (j + (w - 1))))))
      ]

  -- a symbol, whose code is the bits that were read
  symbol-again : ((ns g j n).value < n) × Holds g j (ns_bits n (ns g j n).value) × (length (ns_bits n (ns g j n).value) ≡ (ns g j n).bits)
  symbol-again =
      let s = widths n pos in
      elim (dec_lt first m) [
        | yes l ↦
            rw (short-read n first w m refl refl g j refl l, short-code n first w m refl refl l)
            (omega (arith, s.over, s.under, s.twice), field-again g bits j (w - 1), length-field_bits (w - 1) first)
        | no a ↦
            let v : ℕ = 2 * first - m + g (j + (w - 1)) in
            let e : ns_bits n v ≡ field_bits w (v + m) = long-code n v w m refl refl (omega arith) in
            let x : v + m ≡ field g j w = omega (arith, last_bit) in
            rw (long-read n first w m refl refl g j refl (g (j + (w - 1))) refl (omega arith), e, x)
            (omega (arith, s.over, field_lt g bits j w), field-again g bits j w, length-field_bits w (field g j w))
      ]

  pub ns-lt : (ns g j n).value < n
  ns-lt = symbol-again.0

  pub ns-again : Holds g j (ns_bits n (ns g j n).value)
  ns-again = symbol-again.1

  pub ns-again-length : length (ns_bits n (ns g j n).value) ≡ (ns g j n).bits
  ns-again-length = symbol-again.2

pub ns_bits-are-bits : (n v : ℕ) → AreBits (ns_bits n v)
unfolding ns_bits
ns_bits-are-bits n v =
    chosen (ltb v (short_codes n)) (field_bits (bit_length n - 1) v) (field_bits (bit_length n) (v + short_codes n)) (field_bits-are-bits (bit_length n - 1) v)
    (field_bits-are-bits (bit_length n) (v + short_codes n))
  where
    chosen : (b : Bool) (xs ys : List ℕ) → AreBits xs → AreBits ys → AreBits (choose b xs ys)
    chosen true xs ys p q = p
    chosen false xs ys p q = q

-- a code has the length of n, or one bit less
pub ns_bits-length : (n v : ℕ) → (bit_length n - 1 ≤ length (ns_bits n v)) × (length (ns_bits n v) ≤ bit_length n)
unfolding ns_bits
ns_bits-length n v =
    elim (dec_lt v (short_codes n)) [
      | yes s ↦ rw (lt-ltb v (short_codes n) s, length-field_bits (bit_length n - 1) v) (omega arith)
      | no m ↦
          let le : short_codes n ≤ v = omega arith in
          rw (le-ltb v (short_codes n) le, length-field_bits (bit_length n) (v + short_codes n)) (omega arith)
    ]
