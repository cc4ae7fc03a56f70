-- A field put as a whole: putting two widths is putting the high bits and then the low ones, so that a field placed at once is the field placed
-- bit by bit; inside a byte it is one number in the place of another, and what stands above and below stays.
-- Assumes nothing.
use Prim.Native.Nat.{ℕ, zero, suc, ◌+◌, ◌-◌, ◌*◌, ◌/◌, ◌%◌, ◌^◌, ◌≤◌, ◌<◌}
use mathlib.Core.List.{List, ◌++◌}
use mathlib.Core.Path.{◌≡◌, refl, ap, sym, ◌∙◌, subst}
use native.Mathlib.Nat.{add-zero, mod-eq_of_lt, mod-lt, mod-one, zero-mul, zero-add}
use native.Mathlib.Omega.{arith}
use lib.ListN.{length, get_or, set}
use lib.Pow.{pow_pos, pow-add, split, high, mod-mod-pow, mod-pow-add}
use lib.Seq.{set-get_or, set-set, get_or-set_same, lt-length-set}
use Rattle.five_bytes.specs.Inner.{five_of}
use Rattle.bits.specs.Bits.{bit_at, bit_of, with_bit, put_bit, put_bits}
use Rattle.bits.specs.Fields.{field, field_bits}
use Rattle.bits.specs.Inner.{Room, FieldIs, Wrote}
use Rattle.bits.specs.declared.Field.{Field}
use Rattle.bits.proofs.Held.{Holds}
use Rattle.bits.proofs.Byte.{bit_of-lt, power-step, shifted, low_same}
use Rattle.bits.proofs.Buffer.{put_bits-append, room-front, room_back, room_as, wrote_as, wrote-both}
use Rattle.bits.proofs.Fields.{length-field_bits, field_bits-mod, field_bits-split, field_bits-join, low_bits, field-holds, field-split}

-- put(w₁ + w₂, v) is put(w₁, v ÷ 2 ^ w₂), then put(w₂, v mod 2 ^ w₂)
pub put-split : (l : List ℕ) (j w₁ w₂ v : ℕ)
    → put_bits l j (field_bits (w₁ + w₂) v) ≡ put_bits (put_bits l j (field_bits w₁ (v / 2 ^ w₂))) (j + w₁) (field_bits w₂ (v % 2 ^ w₂))
put-split l j w₁ w₂ v =
    rw (field_bits-split w₁ w₂ v, put_bits-append l j (field_bits w₁ (v / 2 ^ w₂)) (field_bits w₂ v), length-field_bits w₁ (v / 2 ^ w₂), field_bits-mod w₂ v)

-- y with the low n bits of v above its low s bits
abbrev with_field : ℕ → ℕ → ℕ → ℕ → ℕ
with_field y s n v = y / 2 ^ (s + n) * 2 ^ (s + n) + (v % 2 ^ n * 2 ^ s + y % 2 ^ s)

no_field : (y s v : ℕ) → with_field y s 0 v ≡ y
no_field y s v = rw (add-zero s, mod-one v) (omega (arith, split y s))

-- the highest bit of the field first, then the others
one-bit-more : (y s n v : ℕ) → with_field (with_bit y (s + n) (bit_of v n)) s n v ≡ with_field y s (suc n) v
one-bit-more y s n v =
    let b : ℕ = bit_of v n in
    let bit : b < 2 = bit_of-lt v n in
    let k : s + suc n ≡ s + n + 1 = omega arith in
    let c : n + s ≡ s + n = omega arith in
    let above : with_bit y (s + n) b / 2 ^ (s + n) ≡ y / 2 ^ (s + n + 1) * 2 + b =
    ap (λ (z : ℕ). z / 2 ^ (s + n)) (shifted y (s + n) b bit) ∙ high (y / 2 ^ (s + n + 1) * 2 + b) (s + n) (mod-lt y (pow_pos (s + n))) in
    let below : with_bit y (s + n) b % 2 ^ s ≡ y % 2 ^ s =
    sym (low_of (with_bit y (s + n) b)) ∙ ap (λ (z : ℕ). z % 2 ^ s) (low_same y (s + n) b bit) ∙ low_of y in
    let weight : 2 ^ (s + n) ≡ 2 ^ n * 2 ^ s = ap (λ (z : ℕ). 2 ^ z) (sym c) ∙ pow-add 2 n s in
    rw (above, below, k, low_bits v n, power-step (s + n), weight) (omega arith)
  where
    low_of : (z : ℕ) → z % 2 ^ (s + n) % 2 ^ s ≡ z % 2 ^ s
    low_of z = let e : n + s ≡ s + n = omega arith in subst (λ (m : ℕ). z % 2 ^ m % 2 ^ s ≡ z % 2 ^ s) e (mod-mod-pow z n s)

-- bit r of a byte
put_one : (l : List ℕ) (b r k x : ℕ) → r + k ≡ 7 → put_bit l (8 * b + r) x ≡ set l b (with_bit (get_or l b 0) k x)
unfolding put_bit
put_one l b r k x e =
    let q : (8 * b + r) / 8 ≡ b = omega arith in
    let m : 7 - (8 * b + r) % 8 ≡ k = omega arith in
    ap (λ (i : ℕ). set l i (with_bit (get_or l i 0) (7 - (8 * b + r) % 8) x)) q ∙ ap (λ (i : ℕ). set l b (with_bit (get_or l b 0) i x)) m

-- n bits of a byte, from its bit r on
pub put-inside : (l : List ℕ) (b r n v s : ℕ) → r + n + s ≡ 8 → b < length l → put_bits l (8 * b + r) (field_bits n v) ≡ set l b (with_field (get_or l b 0) s n v)
put-inside l b r zero v s e h = rw (no_field (get_or l b 0) s v) (sym (set-get_or l b 0))
put-inside l b r (suc n) v s e h =
    let k : 8 * b + r + 1 ≡ 8 * b + (r + 1) = omega arith in
    let y : ℕ = get_or l b 0 in
    let z : ℕ = with_bit y (s + n) (bit_of v n) in
    ap (λ (t : List ℕ). put_bits t (8 * b + r + 1) (field_bits n v)) (put_one l b r (s + n) (bit_of v n) (omega arith))
    ∙ ap (λ (j : ℕ). put_bits (set l b z) j (field_bits n v)) k
    ∙ put-inside (set l b z) b (r + 1) n v s (omega arith) (lt-length-set l b z h)
    ∙ rw (set-set l b z, get_or-set_same l b z 0 h, one-bit-more y s n v)

module _ (l : List ℕ) (b : ℕ) (h : b < length l) (byte : get_or l b 0 < 2 ^ 8) where
  -- the first bits of a byte
  pub put_front : (k v : ℕ) → k ≤ 8 → put_bits l (8 * b) (field_bits k v) ≡ set l b (v % 2 ^ k * 2 ^ (8 - k) + get_or l b 0 % 2 ^ (8 - k))
  put_front k v le =
      let e : 8 - k + k ≡ 8 = omega arith in
      let none : get_or l b 0 / 2 ^ 8 ≡ 0 = omega arith in
      ap (λ (j : ℕ). put_bits l j (field_bits k v)) (sym (add-zero (8 * b)))
      ∙ put-inside l b 0 k v (8 - k) (omega arith) h
      ∙ rw (e, none, zero-mul (2 ^ 8), zero-add (v % 2 ^ k * 2 ^ (8 - k) + get_or l b 0 % 2 ^ (8 - k)))

  -- all bits of a byte
  pub put_byte : (v : ℕ) → put_bits l (8 * b) (field_bits 8 v) ≡ set l b (v % 2 ^ 8)
  put_byte v = put_front 8 v (omega arith) ∙ ap (set l b) (let e : v % 2 ^ 8 * 1 + get_or l b 0 % 1 ≡ v % 2 ^ 8 = omega arith in e)

-- the first bits of a byte put where they are
same-front : (l : List ℕ) (b k : ℕ) → k ≤ 8 → b < length l → put_bits l (8 * b) (field_bits k (get_or l b 0 / 2 ^ (8 - k))) ≡ l
same-front l b k le h =
    let y : ℕ = get_or l b 0 in
    let e : 8 - k + k ≡ 8 = omega arith in
    let f : k + (8 - k) ≡ 8 = omega arith in
    let low : y / 2 ^ (8 - k) % 2 ^ k * 2 ^ (8 - k) + y % 2 ^ (8 - k) ≡ y % 2 ^ 8 = sym (ap (λ (m : ℕ). y % 2 ^ m) (sym f) ∙ mod-pow-add y k (8 - k)) in
    ap (λ (j : ℕ). put_bits l j (field_bits k (y / 2 ^ (8 - k)))) (sym (add-zero (8 * b)))
    ∙ put-inside l b 0 k (y / 2 ^ (8 - k)) (8 - k) (omega arith) h
    ∙ rw (low, e, split y 8) (set-get_or l b 0)

-- a field in the middle of a byte: with the bits before it, it is a field that begins with the byte
pub put-joined : (l : List ℕ) (b k n v : ℕ) → k ≤ 8 → b < length l
    → put_bits l (8 * b) (field_bits (k + n) (get_or l b 0 / 2 ^ (8 - k) * 2 ^ n + v % 2 ^ n)) ≡ put_bits l (8 * b + k) (field_bits n v)
put-joined l b k n v le h =
    let before : ℕ = get_or l b 0 / 2 ^ (8 - k) in
    rw (field_bits-join k n before v, put_bits-append l (8 * b) (field_bits k before) (field_bits n v), length-field_bits k before, same-front l b k le h)

-- a turn of the writing loop: a byte of the word's bits is put, and what is left gives what was to be put
pub byte_step : (l : List ℕ) (b left v : ℕ) {l' t : List ℕ} → 8 ≤ left → l' ≡ put_bits l (8 * b) (field_bits 8 (v / 2 ^ (left - 8)))
    → put_bits l (8 * b) (field_bits left v) ≡ t → put_bits l' (8 * (b + 1)) (field_bits (left - 8) v) ≡ t
byte_step l b left v {l'} {t} h el r =
    let e : 8 + (left - 8) ≡ left = omega arith in
    let k : 8 * (b + 1) ≡ 8 * b + 8 = omega arith in
    rw (el, k) (rw (field_bits-mod (left - 8) v) at (sym (put-split l (8 * b) 8 (left - 8) v)) ∙ ap (λ (m : ℕ). put_bits l (8 * b) (field_bits m v)) e ∙ r)

-- ---- fields of several parts

-- a list of bits as a field: how many they are
pub field-length : (r : Field) (bs : List ℕ) → FieldIs r bs → r.n ≡ length bs
field-length r bs f = sym (length-field_bits r.n r.value) ∙ ap length f.bits

pub room-field : (l : List ℕ) (j : ℕ) (r : Field) (bs : List ℕ) → FieldIs r bs → Room l j (length bs) → Room l j r.n
room-field l j r bs f room = subst (λ (n : ℕ). Room l j n) (sym (field-length r bs f)) room

-- a field and the bits behind it, one call for each
module _ (n x : ℕ) (ys bs : List ℕ) (e : field_bits n x ++ ys ≡ bs) where
  pub room-first : (l : List ℕ) (j : ℕ) → Room l j (length bs) → Room l j n
  room-first l j r = subst (λ (k : ℕ). Room l j k) (length-field_bits n x) (room-front l j (field_bits n x) ys (room_as l j bs (field_bits n x ++ ys) (sym e) r))

  pub room-second : (l : List ℕ) (j : ℕ) (l' : List ℕ) (j' : ℕ) → Wrote l j (field_bits n x) l' j' → Room l j (length bs) → Room l' j' (length ys)
  room-second l j l' j' w r = room_back l j (field_bits n x) ys l' j' w (room_as l j bs (field_bits n x ++ ys) (sym e) r)

  pub wrote-two : {l l' l'' : List ℕ} {j j' j'' : ℕ} → Wrote l j (field_bits n x) l' j' → Wrote l' j' ys l'' j'' → Wrote l j bs l'' j''
  wrote-two a b = wrote_as (field_bits n x ++ ys) bs e (wrote-both (field_bits n x) ys a b)

-- one in front of another
pub field-behind : (w h : ℕ) (r : Field) (xs ys : List ℕ) → field_bits w h ≡ xs → FieldIs r ys → field_bits (w + r.n) (h * 2 ^ r.n + r.value) ≡ xs ++ ys
field-behind w h r xs ys e f =
    ap (λ (v : ℕ). field_bits (w + r.n) (h * 2 ^ r.n + v)) (sym (mod-eq_of_lt f.low))
    ∙ field_bits-join w r.n h r.value
    ∙ ap (λ (l : List ℕ). l ++ field_bits r.n r.value) e
    ∙ ap (λ (l : List ℕ). xs ++ l) f.bits

-- ---- reading

-- a byte's bits from its bit r on
byte-holds : (l : List ℕ) (b r k : ℕ) → r + k ≡ 8 → Holds (bit_at l) (8 * b + r) (field_bits k (get_or l b 0))
unfolding bit_at
byte-holds l b r zero e = tt
byte-holds l b r (suc k) e =
    let q : (8 * b + r) / 8 ≡ b = omega arith in
    let m : 7 - (8 * b + r) % 8 ≡ k = omega arith in
    let j : 8 * b + r + 1 ≡ 8 * b + (r + 1) = omega arith in
    (rw (q, m), rw j (byte-holds l b (r + 1) k (omega arith)))

-- a byte read as a field
pub field-byte : (l : List ℕ) (b : ℕ) → field (bit_at l) (8 * b) 8 ≡ get_or l b 0 % 2 ^ 8
field-byte l b =
    field-holds (bit_at l) (8 * b) 8 (get_or l b 0)
    (rw (add-zero (8 * b)) at (byte-holds l b 0 8 refl))

-- and one byte more
pub field-more : (g : ℕ → ℕ) (b n : ℕ) {x y t k : ℕ} → x ≡ field g (8 * b) (8 * n) → y ≡ field g (8 * k) 8 → k ≡ b + n → t ≡ x * 256 + y → t ≡ field g (8 * b) (8 * (n + 1))
field-more g b n {x} {y} {t} {k} ex ey ek et =
    let e : 8 * (n + 1) ≡ 8 * n + 8 = omega arith in
    let m : 8 * k ≡ 8 * b + 8 * n = omega arith in
    et ∙ rw (ex, ey, m, e) (sym (field-split g (8 * b) (8 * n) 8))

-- five bytes, the first highest
pub field-five : (g : ℕ → ℕ) (b : ℕ) {b₁ b₂ b₃ b₄ b₅ : ℕ} → b₁ ≡ field g (8 * b) 8 → b₂ ≡ field g (8 * (b + 1)) 8 → b₃ ≡ field g (8 * (b + 2)) 8
    → b₄ ≡ field g (8 * (b + 3)) 8 → b₅ ≡ field g (8 * (b + 4)) 8 → (((b₁ * 256 + b₂) * 256 + b₃) * 256 + b₄) * 256 + b₅ ≡ field g (8 * b) 40
field-five g b e₁ e₂ e₃ e₄ e₅ =
    field-more g b 4 (field-more g b 3 (field-more g b 2 (field-more g b 1 e₁ e₂ refl refl) e₃ refl refl) e₄ refl refl) e₅ refl refl

-- as they are read
pub five-field : (l : List ℕ) (b : ℕ) → five_of l b ≡ field (bit_at l) (8 * b) 40
five-field l b =
    field-five (bit_at l) b (sym (field-byte l b)) (sym (field-byte l (b + 1))) (sym (field-byte l (b + 2))) (sym (field-byte l (b + 3))) (sym (field-byte l (b + 4)))
