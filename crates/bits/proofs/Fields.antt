-- A field that was written is read back, takes as many bits as it has, and is put together from two.
-- Assumes nothing.
use Prim.Native.Nat.{ℕ, zero, suc, ◌+◌, ◌-◌, ◌*◌, ◌/◌, ◌%◌, ◌^◌, ◌≤◌, ◌<◌}
use mathlib.Core.List.{◌++◌}
use mathlib.Core.Path.{◌≡◌, refl, ap, sym, ◌∙◌, subst}
use native.Mathlib.Nat.{add-zero, zero-add, le_refl, mod-eq_of_lt, mod-lt, pow-suc, mod-one, mul-add-mod_self_right}
use native.Mathlib.Omega.{arith}
use lib.ListN.{length}
use lib.Arith.{digits_lt}
use lib.Dec.{lit<}
use lib.Pow.{high, low, mod-pow-add, pow-add, pow_pos, shr-shr, split}
use Rattle.bits.specs.Bits.{bit_of}
use Rattle.bits.proofs.Held.{Holds, AreBits}
use Rattle.bits.specs.Fields.{field, field_bits}
use Rattle.bits.proofs.Byte.{bit_of-lt, bit-from-low}

pub length-field_bits : (n v : ℕ) → length (field_bits n v) ≡ n
length-field_bits zero v = refl
length-field_bits (suc n) v = ap suc (length-field_bits n v)

pub field_bits-are-bits : (n v : ℕ) → AreBits (field_bits n v)
field_bits-are-bits zero v = tt
field_bits-are-bits (suc n) v = (bit_of-lt v n, field_bits-are-bits n v)

-- the low n + 1 bits: the bit of weight 2 ^ n, and the low n
pub low_bits : (v n : ℕ) → v % 2 ^ suc n ≡ bit_of v n * 2 ^ n + v % 2 ^ n
low_bits v n =
    subst (λ (m : ℕ). v % 2 ^ m ≡ bit_of v n * 2 ^ n + v % 2 ^ n) (let e : 1 + n ≡ suc n = omega arith in e) (mod-pow-add v 1 n)

pub field-holds : (g : ℕ → ℕ) (j n v : ℕ) → Holds g j (field_bits n v) → field g j n ≡ v % 2 ^ n
field-holds g j zero v h = sym (mod-one v)
field-holds g j (suc n) v h = rw (h.0, field-holds g (j + 1) n v h.1) (sym (low_bits v n))

pub field-read : (g : ℕ → ℕ) (j n v : ℕ) → v < 2 ^ n → Holds g j (field_bits n v) → field g j n ≡ v
field-read g j n v l h = field-holds g j n v h ∙ mod-eq_of_lt l

-- bits below weight 2 ^ n know nothing of what stands from there on
bit_of-low : (c r n i : ℕ) → i < n → bit_of (c * 2 ^ n + r) i ≡ bit_of r i
bit_of-low c r n i h =
    let e : n - (1 + i) + (1 + i) ≡ n = omega arith in
    bit-from-low (c * 2 ^ n + r) (n - (1 + i)) i
    ∙ rw (e, mul-add-mod_self_right c (2 ^ n) r, ← e, ← bit-from-low r (n - (1 + i)) i)

pub field_bits-low : (c r n m : ℕ) → m ≤ n → field_bits m (c * 2 ^ n + r) ≡ field_bits m r
field_bits-low c r n zero h = refl
field_bits-low c r n (suc m) h = rw (bit_of-low c r n m h, field_bits-low c r n m (omega arith))

-- the low n bits of v know nothing of what stands above them
pub field_bits-mod : (n v : ℕ) → field_bits n (v % 2 ^ n) ≡ field_bits n v
field_bits-mod n v = sym (ap (field_bits n) (sym (split v n)) ∙ field_bits-low (v / 2 ^ n) (v % 2 ^ n) n n (le_refl n))

-- a field of two widths is two fields: the high bits of v, then the low ones
pub field_bits-split : (w₁ w₂ v : ℕ) → field_bits (w₁ + w₂) v ≡ field_bits w₁ (v / 2 ^ w₂) ++ field_bits w₂ v
field_bits-split zero w₂ v = rw (zero-add w₂)
field_bits-split (suc w₁) w₂ v =
    let e : suc w₁ + w₂ ≡ suc (w₁ + w₂) = omega arith in
    let c : w₂ + w₁ ≡ w₁ + w₂ = omega arith in
    rw (e, shr-shr v w₂ w₁, c, field_bits-split w₁ w₂ v)

-- a number in front of another
pub field_bits-join : (w₁ w₂ h r : ℕ) → field_bits (w₁ + w₂) (h * 2 ^ w₂ + r % 2 ^ w₂) ≡ field_bits w₁ h ++ field_bits w₂ r
field_bits-join w₁ w₂ h r =
    field_bits-split w₁ w₂ (h * 2 ^ w₂ + r % 2 ^ w₂)
    ∙ rw (high h w₂ (mod-lt r (pow_pos w₂)), field_bits-low h (r % 2 ^ w₂) w₂ w₂ (le_refl w₂), field_bits-mod w₂ r)

-- the last bit
pub field-last : (g : ℕ → ℕ) (j n : ℕ) → field g j (suc n) ≡ 2 * field g j n + g (j + n)
field-last g j zero = rw (add-zero j) (omega arith)
field-last g j (suc n) =
    let e : j + 1 + n ≡ j + suc n = omega arith in
    rw (← e) (omega (arith, field-last g (j + 1) n, ap (λ (p : ℕ). g j * p) (pow-suc 2 n)))

-- a field of two widths is two fields
pub field-split : (g : ℕ → ℕ) (j w₁ w₂ : ℕ) → field g j (w₁ + w₂) ≡ field g j w₁ * 2 ^ w₂ + field g (j + w₁) w₂
field-split g j zero w₂ = rw (zero-add w₂, add-zero j) (omega arith)
field-split g j (suc w₁) w₂ =
    let e : suc w₁ + w₂ ≡ suc (w₁ + w₂) = omega arith in
    let k : j + 1 + w₁ ≡ j + suc w₁ = omega arith in
    rw (e, field-split g (j + 1) w₁ w₂, pow-add 2 w₁ w₂, k) (omega arith)

module _ (g : ℕ → ℕ) (bits : (j : ℕ) → g j < 2) where
  pub field_lt : (j n : ℕ) → field g j n < 2 ^ n
  field_lt j zero = lit< tt
  field_lt j (suc n) = omega (arith, digits_lt (bits j) (field_lt (j + 1) n), pow-suc 2 n)

  -- n bits inside a field, from its bit k on, with s bits behind them
  pub field-inside : (j k n s : ℕ) → field g j (k + (n + s)) / 2 ^ s % 2 ^ n ≡ field g (j + k) n
  field-inside j k n s =
      let front : ℕ = field g j k * 2 ^ n + field g (j + k) n in
      let whole : field g j (k + (n + s)) ≡ front * 2 ^ s + field g (j + k + n) s =
      rw (field-split g j k (n + s), field-split g (j + k) n s, pow-add 2 n s) (omega arith) in
      rw (whole, high front s (field_lt (j + k + n) s)) (low (field g j k) n (field_lt (j + k) n))

  -- the bits of what is read are those that were read
  pub field-again : (j n : ℕ) → Holds g j (field_bits n (field g j n))
  field-again j zero = tt
  field-again j (suc n) =
      rw (high (g j) n (field_lt (j + 1) n), mod-eq_of_lt (bits j), field_bits-low (g j) (field g (j + 1) n) n n (le_refl n))
      (refl, field-again (j + 1) n)
