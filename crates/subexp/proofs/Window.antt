-- The ones in front of 32 bits, by the length of what they lack to all ones; and with the last rung they are the climb.
-- Assumes nothing.
use Prim.Native.Nat.{ℕ, zero, suc, ◌+◌, ◌-◌, ◌*◌, ◌/◌, ◌%◌, ◌^◌, ◌≤◌, ◌<◌}
use mathlib.Core.Bool.{true, false}
use mathlib.Core.Path.{◌≡◌, refl, ap, sym, ◌∙◌, subst}
use native.Mathlib.Nat.{pow-suc}
use native.Mathlib.Decide.{dec_lt}
use native.Mathlib.Omega.{arith}
use borrow.Author.Tests.{le-leb, lt-leb}
use lib.Pow.{pow_pos, pow_mono, pow-add, high}
use Rattle.bits.specs.Fields.{field}
use Rattle.bits.specs.Ns.{bit_length}
use Rattle.bits.specs.declared.BitCursor.{BitCursor}
use Rattle.bits.proofs.BitLength.{Length, bit_length-length, bit_length-le}
use Rattle.bits.proofs.Fields.{field_lt, field-inside}
use Rattle.subexp.specs.Inner.{ClimbIs, LastIs, reach, last_rung}
use Rattle.subexp.proofs.Climbing.{stops, ends, ones-read}

-- ---- the last rung

reach-later : (i : ℕ) → reach (suc i) ≡ 2 ^ (5 + i)
reach-later i =
    let e : 5 + i ≡ suc (suc (3 + i)) = omega arith in
    rw e (omega (arith, pow-suc 2 (suc (3 + i)), pow-suc 2 (3 + i)))

pub last-first : (S : ℕ) → S ≤ 24 → LastIs S 0
last-first S h = record { few = omega arith; last = le-leb S 24 h; before = λ i l. absurd (omega arith) }

pub last-later : (S w : ℕ) → 24 < S → S ≤ 65536 → w ≡ bit_length (S - 1) → (4 ≤ w) × LastIs S (w - 4)
last-later S w more small ew =
    (omega (arith, five), record { few = omega (arith, sixteen); last = subst (λ (r : ℕ). last_rung S r ≡ true) (sym e) end; before = earlier })
  where
    long : Length (S - 1) w
    long = subst (Length (S - 1)) (sym ew) (bit_length-length (S - 1))

    least : 2 ^ w ≤ 2 * (S - 1)
    least = long.least (omega arith)

    five : 5 ≤ w
    five =
        elim (dec_lt w 5) [
          | yes l ↦ absurd (omega (arith, pow_mono {i = w} {j = 4} (omega arith), long.below))
          | no n ↦ omega arith
        ]

    sixteen : w ≤ 16
    sixteen = rw ew (bit_length-le (S - 1) 16 (omega arith))

    e : w - 4 ≡ suc (w - 5)
    e = omega (arith, five)

    end : last_rung S (suc (w - 5)) ≡ true
    end =
        let p : 5 + (w - 5) ≡ w = omega (arith, five) in
        le-leb S (reach (suc (w - 5))) (omega (arith, reach-later (w - 5), ap (λ (k : ℕ). 2 ^ k) p, long.below))

    earlier : (i : ℕ) → i < w - 4 → last_rung S i ≡ false
    earlier zero h = lt-leb S 24 more
    earlier (suc i) h =
        let up : suc (5 + i) ≤ w = omega arith in
        lt-leb S (reach (suc i)) (omega (arith, reach-later i, pow_mono up, pow-suc 2 (5 + i), least))

-- ---- the ones in front

-- what is left of all ones, over a place that it doesn't reach: the quotient lacks nothing but one
over : (q p c w : ℕ) → (q + 1) * p ≡ 4294967296 → c < p → w + c ≡ 4294967295 → w ≡ q * p + (p - 1 - c)
over q p c w e l s = omega arith

-- and over the highest that it reaches
under : (q p c w : ℕ) → (q + 2) * p ≡ 4294967296 → p ≤ c → c < 2 * p → w + c ≡ 4294967295 → w ≡ q * p + (2 * p - 1 - c)
under q p c w e l m s = omega arith

module _ (g : ℕ → ℕ) (bits : (j : ℕ) → g j < 2) (j w b : ℕ) (ew : w ≡ field g j 32) (eb : b ≡ bit_length (4294967295 - w)) where
  low : w < 4294967296
  low = omega (arith, ew, field_lt g bits j 32)

  long : Length (4294967295 - w) b
  long = subst (Length (4294967295 - w)) (sym eb) (bit_length-length (4294967295 - w))

  pub most : b ≤ 32
  most = rw eb (bit_length-le (4294967295 - w) 32 (omega arith))

  bit_is : (k s : ℕ) → k + (1 + s) ≡ 32 → w / 2 ^ s % 2 ≡ g (j + k)
  bit_is k s e =
      ap (λ (x : ℕ). x / 2 ^ s % 2) ew
      ∙ ap (λ (m : ℕ). field g j m / 2 ^ s % 2) (sym e)
      ∙ field-inside g bits j k 1 s
      ∙ omega arith

  powers : (k s : ℕ) → k + (1 + s) ≡ 32 → 2 * 2 ^ k * 2 ^ s ≡ 4294967296
  powers k s e =
      let f : suc k + s ≡ 32 = omega arith in
      ap (λ (x : ℕ). x * 2 ^ s) (let two : 2 * 2 ^ k ≡ 2 ^ suc k = omega (arith, pow-suc 2 k) in two) ∙ sym (pow-add 2 (suc k) s) ∙ ap (λ (m : ℕ). 2 ^ m) f

  pub ones-before : (k : ℕ) → k < 32 - b → g (j + k) ≡ 1
  ones-before k h =
      let s : ℕ = 31 - k in
      let e : k + (1 + s) ≡ 32 = omega arith in
      let c : ℕ = 4294967295 - w in
      let q : ℕ = 2 * 2 ^ k - 1 in
      let up : b ≤ s = omega arith in
      let less : c < 2 ^ s = omega (arith, long.below, pow_mono up) in
      let q1 : q + 1 ≡ 2 * 2 ^ k = omega (arith, pow_pos k) in
      let p : (q + 1) * 2 ^ s ≡ 4294967296 = ap (λ (x : ℕ). x * 2 ^ s) q1 ∙ powers k s e in
      let is : w ≡ q * 2 ^ s + (2 ^ s - 1 - c) = over q (2 ^ s) c w p less (omega (arith, low)) in
      let d : w / 2 ^ s ≡ q = ap (λ (x : ℕ). x / 2 ^ s) is ∙ high q s (omega (arith, less)) in
      sym (bit_is k s e) ∙ ap (λ (x : ℕ). x % 2) d ∙ omega (arith, q1)

  pub zero-behind : 0 < b → g (j + (32 - b)) ≡ 0
  zero-behind pos =
      let k : ℕ = 32 - b in
      let s : ℕ = b - 1 in
      let e : k + (1 + s) ≡ 32 = omega (arith, most) in
      let c : ℕ = 4294967295 - w in
      let q : ℕ = 2 * 2 ^ k - 2 in
      let b1 : b ≡ suc s = omega arith in
      let twice : 2 ^ b ≡ 2 * 2 ^ s = ap (λ (x : ℕ). 2 ^ x) b1 ∙ omega (arith, pow-suc 2 s) in
      let some : 0 < c = omega (arith, reaches pos) in
      let q2 : q + 2 ≡ 2 * 2 ^ k = omega (arith, pow_pos k) in
      let p : (q + 2) * 2 ^ s ≡ 4294967296 = ap (λ (x : ℕ). x * 2 ^ s) q2 ∙ powers k s e in
      let is : w ≡ q * 2 ^ s + (2 * 2 ^ s - 1 - c) = under q (2 ^ s) c w p (omega (arith, long.least some)) (omega (arith, long.below)) (omega (arith, low)) in
      let d : w / 2 ^ s ≡ q = ap (λ (x : ℕ). x / 2 ^ s) is ∙ high q s (omega (arith, long.least some, long.below, pow_pos s)) in
      sym (bit_is k s e) ∙ ap (λ (x : ℕ). x % 2) d ∙ omega (arith, q2)
    where
      reaches : 0 < b → 0 < 4294967295 - w
      reaches h =
          elim (dec_lt 0 (4294967295 - w)) [
            | yes l ↦ l
            | no n ↦
                let z : 4294967295 - w ≡ 0 = omega arith in
                let none : b ≤ 0 = rw eb (bit_length-le (4294967295 - w) 0 (omega arith)) in
                absurd (omega arith)
          ]

  -- ---- the climb

  module _ (S o last : ℕ) (pos : 0 < S) (small : S ≤ 65536) (eo : o ≡ 32 - b) (l : LastIs S last) (n : BitCursor) where
    pub climb-stops : o < last → n.at ≡ j + o + 1 → ClimbIs g S j (record { i = o; last = false; next = n })
    climb-stops h en =
        let z : g (j + o) ≡ 0 = ap (λ (x : ℕ). g (j + x)) eo ∙ zero-behind (omega (arith, l.few)) in
        stops g S j small o n (g (j + o)) (l.before o h) refl z en
        (ones-read g S j o pos (λ k m. l.before k (omega arith)) (λ k m. ones-before k (omega arith)))

    pub climb-ends : last ≤ o → n.at ≡ j + last → ClimbIs g S j (record { i = last; last = true; next = n })
    climb-ends h en =
        ends g S j small last n l.last en
        (ones-read g S j last pos l.before (λ k m. ones-before k (omega arith)))
