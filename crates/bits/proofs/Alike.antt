-- Bits put into two buffers that agree before them, up to the end of a byte, make the same bytes: so a front that is filled wholly can be made elsewhere.
-- Assumes nothing.
use Prim.Native.Nat.{ℕ, zero, suc, ◌+◌, ◌-◌, ◌*◌, ◌/◌, ◌%◌, ◌^◌, ◌≤◌, ◌<◌}
use mathlib.Core.List.{List, [], ◌∷◌, ◌++◌}
use mathlib.Core.Logic.{⊎_elim}
use mathlib.Core.Path.{◌≡◌, refl, ap, sym, ◌∙◌}
use native.Mathlib.Nat.{mod-eq_of_lt}
use native.Mathlib.Omega.{arith}
use lib.ListN.{length, get_or, take, drop, take-append-drop}
use lib.Pow.{shr-shr}
use lib.Seq.{ext_get_or, get_or-take, length-take-le, get_or-set_same, get_or-set_other, set_out}
use Rattle.laws.specs.Buffer.{onto}
use Rattle.laws.proofs.Cases.{lt-or-le, eq-or-ne}
use Rattle.bits.specs.Bits.{with_bit, bit_at, put_bit, put_bits}
use Rattle.bits.specs.Fields.{field}
use Rattle.bits.proofs.Held.{AreBits}
use Rattle.bits.proofs.Byte.{with_bit-byte}
use Rattle.bits.proofs.Buffer.{length-put_bit, length-put_bits, put_bit-same, put_bit-other, put_bits-bytes}
use Rattle.bits.proofs.Words.{field-byte}

-- each element is a byte
abbrev pub Bytes : List ℕ → Type 0
Bytes l = (i : ℕ) → get_or l i 0 < 2 ^ 8

bytes-put : (l : List ℕ) (j b : ℕ) → b < 2 → Bytes l → Bytes (put_bit l j b)
unfolding put_bit
bytes-put l j b bit h i =
    let x : ℕ = with_bit (get_or l (j / 8) 0) (7 - j % 8) b in
    ⊎_elim
    (λ (e : i ≡ j / 8).
    ⊎_elim
    (λ (in-range : j / 8 < length l). rw (e, get_or-set_same l (j / 8) x 0 in-range) (with_bit-byte (get_or l (j / 8) 0) (7 - j % 8) b (h (j / 8)) (omega arith) bit))
    (λ (out : length l ≤ j / 8). rw (set_out l (j / 8) x out) (h i))
    (lt-or-le (j / 8) (length l)))
    (λ (n : i ≡ j / 8 → ⊥). rw (get_or-set_other l (j / 8) i x 0 n) (h i))
    (eq-or-ne i (j / 8))

pub bytes-stay : (l : List ℕ) (j : ℕ) (bs : List ℕ) → AreBits bs → Bytes l → Bytes (put_bits l j bs)
bytes-stay l j [] a h = h
bytes-stay l j (b ∷ bs) a h = bytes-stay (put_bit l j b) (j + 1) bs a.1 (bytes-put l j b a.0 h)

-- the bits below position j are alike
abbrev pub Alike : List ℕ → List ℕ → ℕ → Type 0
Alike l m j = (i : ℕ) → i < j → bit_at l i ≡ bit_at m i

alike-put : (l m : List ℕ) (j b : ℕ) → b < 2 → j < 8 * length l → j < 8 * length m → Alike l m j → Alike (put_bit l j b) (put_bit m j b) (j + 1)
alike-put l m j b bit hl hm a i h =
    ⊎_elim
    (λ (e : i ≡ j). rw e (put_bit-same l j b bit hl ∙ sym (put_bit-same m j b bit hm)))
    (λ (n : i ≡ j → ⊥). put_bit-other l j b bit i hl n ∙ a i (omega arith) ∙ sym (put_bit-other m j b bit i hm n))
    (eq-or-ne i j)

pub alike-puts : (l m : List ℕ) (j : ℕ) (bs : List ℕ) → AreBits bs → j + length bs ≤ 8 * length l → j + length bs ≤ 8 * length m → Alike l m j
    → Alike (put_bits l j bs) (put_bits m j bs) (j + length bs)
alike-puts l m j [] bits hl hm a i h = a i (omega arith)
alike-puts l m j (b ∷ bs) bits hl hm a i h =
    alike-puts (put_bit l j b) (put_bit m j b) (j + 1) bs bits.1
    (omega (arith, length-put_bit l j b)) (omega (arith, length-put_bit m j b))
    (alike-put l m j b bits.0 (omega arith) (omega arith) a) i (omega arith)

same-field : (g h : ℕ → ℕ) (j n : ℕ) → ((i : ℕ) → i < j + n → g i ≡ h i) → field g j n ≡ field h j n
same-field g h j zero e = refl
same-field g h j (suc n) e = rw (e j (omega arith), same-field g h (j + 1) n (λ i l. e i (omega arith)))

-- the bytes whose bits are alike
same_byte : (l m : List ℕ) (i : ℕ) → Bytes l → Bytes m → Alike l m (8 * i + 8) → get_or l i 0 ≡ get_or m i 0
same_byte l m i hl hm a =
    sym (mod-eq_of_lt (hl i)) ∙ sym (field-byte l i) ∙ same-field (bit_at l) (bit_at m) (8 * i) 8 a ∙ field-byte m i ∙ mod-eq_of_lt (hm i)

same-front : (l m : List ℕ) (n : ℕ) → n ≤ length l → n ≤ length m → Bytes l → Bytes m → Alike l m (8 * n) → take n l ≡ take n m
same-front l m n nl nm hl hm a =
    let tl : length (take n l) ≡ n = length-take-le n l nl in
    let tm : length (take n m) ≡ n = length-take-le n m nm in
    ext_get_or 0 (take n l) (take n m) (omega arith)
    (λ i h.
    let less : i < n = omega arith in
    get_or-take n l i 0 less ∙ same_byte l m i hl hm (λ k kl. a k (omega arith)) ∙ sym (get_or-take n m i 0 less))

-- a front made in m and laid onto l is the bits put into l
pub laid-front : (l m : List ℕ) (j : ℕ) (bs : List ℕ) (n : ℕ) → AreBits bs → j + length bs ≡ 8 * n → n ≤ length l → n ≤ length m → Bytes l → Bytes m → Alike m l j
    → onto (take n (put_bits m j bs)) l ≡ put_bits l j bs
laid-front l m j bs n bits e nl nm hl hm a =
    let t : length (take n (put_bits m j bs)) ≡ n = length-take-le n (put_bits m j bs) (omega (arith, length-put_bits m j bs)) in
    let front : take n (put_bits m j bs) ≡ take n (put_bits l j bs) =
    same-front (put_bits m j bs) (put_bits l j bs) n (omega (arith, length-put_bits m j bs)) (omega (arith, length-put_bits l j bs)) (bytes-stay m j bs bits hm) (bytes-stay l j bs bits hl)
    (λ i h. alike-puts m l j bs bits (omega arith) (omega arith) a i (omega arith)) in
    ap (λ (k : ℕ). take n (put_bits m j bs) ++ drop k l) t
    ∙ ap (λ (x : List ℕ). x ++ drop n l) front
    ∙ ap (λ (x : List ℕ). take n (put_bits l j bs) ++ x) (sym (put_bits-bytes l j bs n (omega arith)))
    ∙ take-append-drop n (put_bits l j bs)

-- two bytes with the same first bits
pub alike-first : (l m : List ℕ) (j : ℕ) → j ≤ 8 → get_or l 0 0 / 2 ^ (8 - j) ≡ get_or m 0 0 / 2 ^ (8 - j) → Alike l m j
unfolding bit_at
alike-first l m j le e i h =
    let q : i / 8 ≡ 0 = omega arith in
    let k : 7 - i % 8 ≡ 8 - j + (j - 1 - i) = omega arith in
    rw (q, k, ← shr-shr (get_or l 0 0) (8 - j) (j - 1 - i), ← shr-shr (get_or m 0 0) (8 - j) (j - 1 - i), e)
