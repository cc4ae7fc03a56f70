-- Bits put into a buffer are there afterwards, every other bit and byte is as it was, and runs of bits follow one another.
-- Assumes nothing.
use Prim.Native.Nat.{ℕ, suc, ◌+◌, ◌-◌, ◌*◌, ◌/◌, ◌%◌, ◌≤◌, ◌<◌}
use mathlib.Core.List.{List, [], ◌∷◌, ◌++◌}
use mathlib.Core.Path.{◌≡◌, refl, ap, sym, ◌∙◌, subst}
use native.Mathlib.Nat.{add-zero}
use native.Mathlib.Decide.{ℕ_discrete}
use native.Mathlib.Omega.{arith}
use lib.ListN.{length, get_or, drop, length-set, length-append}
use lib.Seq.{get_or-set_same, get_or-set_other, drop-set-lt, get_or-drop}
use Rattle.bits.specs.Bits.{with_bit, bit_at, put_bit, put_bits}
use Rattle.bits.proofs.Held.{Holds, AreBits}
use Rattle.bits.specs.Inner.{Room, Wrote}
use Rattle.bits.proofs.Byte.{bit_of-lt, bit_of-same, bit_of-other}

pub bit_at_lt : (l : List ℕ) (j : ℕ) → bit_at l j < 2
unfolding bit_at
bit_at_lt l j = bit_of-lt (get_or l (j / 8) 0) (7 - j % 8)

-- the bits of what is left of the bytes
pub bit_at-drop : (l : List ℕ) (k j : ℕ) → bit_at (drop k l) j ≡ bit_at l (8 * k + j)
unfolding bit_at
bit_at-drop l k j =
    let q : (8 * k + j) / 8 ≡ k + j / 8 = omega arith in
    let r : (8 * k + j) % 8 ≡ j % 8 = omega arith in
    rw (q, r, get_or-drop k l (j / 8) 0)

pub length-put_bit : (l : List ℕ) (j b : ℕ) → length (put_bit l j b) ≡ length l
unfolding put_bit
length-put_bit l j b = length-set l (j / 8) (with_bit (get_or l (j / 8) 0) (7 - j % 8) b)

pub length-put_bits : (l : List ℕ) (j : ℕ) (bs : List ℕ) → length (put_bits l j bs) ≡ length l
length-put_bits l j [] = refl
length-put_bits l j (b ∷ bs) = length-put_bits (put_bit l j b) (j + 1) bs ∙ length-put_bit l j b

module _ (l : List ℕ) (j b : ℕ) (bit : b < 2) where
  pub put_bit-same : j < 8 * length l → bit_at (put_bit l j b) j ≡ b
  unfolding bit_at put_bit
  put_bit-same h =
      let i : j / 8 < length l = omega arith in
      rw (get_or-set_same l (j / 8) (with_bit (get_or l (j / 8) 0) (7 - j % 8) b) 0 i) (bit_of-same (get_or l (j / 8) 0) (7 - j % 8) b bit)

  pub put_bit-other : (i : ℕ) → j < 8 * length l → (i ≡ j → ⊥) → bit_at (put_bit l j b) i ≡ bit_at l i
  unfolding bit_at put_bit
  put_bit-other i h ne =
      elim (ℕ_discrete (i / 8) (j / 8)) [
        | yes e ↦
            let n : j / 8 < length l = omega arith in
            rw (e, get_or-set_same l (j / 8) (with_bit (get_or l (j / 8) 0) (7 - j % 8) b) 0 n)
            (bit_of-other (get_or l (j / 8) 0) (7 - j % 8) b (7 - i % 8) bit (λ w. ne (omega arith)))
        | no n ↦ rw (get_or-set_other l (j / 8) (i / 8) (with_bit (get_or l (j / 8) 0) (7 - j % 8) b) 0 n)
      ]

-- positions before the run
pub put_bits-before : (l : List ℕ) (j : ℕ) (bs : List ℕ) (i : ℕ) → AreBits bs → j + length bs ≤ 8 * length l → i < j → bit_at (put_bits l j bs) i ≡ bit_at l i
put_bits-before l j [] i a h lt = refl
put_bits-before l j (b ∷ bs) i a h lt =
    let n : length (put_bit l j b) ≡ length l = length-put_bit l j b in
    put_bits-before (put_bit l j b) (j + 1) bs i a.1 (omega arith) (omega arith) ∙ put_bit-other l j b a.0 i (omega arith) (omega arith)

-- and behind it
pub put_bits-behind : (l : List ℕ) (j : ℕ) (bs : List ℕ) (i : ℕ) → AreBits bs → j + length bs ≤ 8 * length l → j + length bs ≤ i → bit_at (put_bits l j bs) i ≡ bit_at l i
put_bits-behind l j [] i a h le = refl
put_bits-behind l j (b ∷ bs) i a h le =
    let n : length (put_bit l j b) ≡ length l = length-put_bit l j b in
    put_bits-behind (put_bit l j b) (j + 1) bs i a.1 (omega arith) (omega arith) ∙ put_bit-other l j b a.0 i (omega arith) (omega arith)

pub put_bits-holds : (l : List ℕ) (j : ℕ) (bs : List ℕ) → AreBits bs → j + length bs ≤ 8 * length l → Holds (bit_at (put_bits l j bs)) j bs
put_bits-holds l j [] a h = tt
put_bits-holds l j (b ∷ bs) a h =
    let n : length (put_bit l j b) ≡ length l = length-put_bit l j b in (
      put_bits-before (put_bit l j b) (j + 1) bs j a.1 (omega arith) (omega arith) ∙ put_bit-same l j b a.0 (omega arith),
      put_bits-holds (put_bit l j b) (j + 1) bs a.1 (omega arith),
    )

-- bytes behind the run
pub put_bits-bytes : (l : List ℕ) (j : ℕ) (bs : List ℕ) (k : ℕ) → j + length bs ≤ 8 * k → drop k (put_bits l j bs) ≡ drop k l
unfolding put_bit
put_bits-bytes l j [] k h = refl
put_bits-bytes l j (b ∷ bs) k h =
    put_bits-bytes (put_bit l j b) (j + 1) bs k (omega arith) ∙ drop-set-lt k l (j / 8) (with_bit (get_or l (j / 8) 0) (7 - j % 8) b) (omega arith)

pub put_bits-append : (l : List ℕ) (j : ℕ) (xs bs : List ℕ) → put_bits l j (xs ++ bs) ≡ put_bits (put_bits l j xs) (j + length xs) bs
put_bits-append l j [] bs = rw (add-zero j)
put_bits-append l j (x ∷ xs) bs =
    let e : j + 1 + length xs ≡ j + suc (length xs) = omega arith in
    rw (← e) (put_bits-append (put_bit l j x) (j + 1) xs bs)

module _ (g : ℕ → ℕ) where
  pub holds-front : (j : ℕ) (xs bs : List ℕ) → Holds g j (xs ++ bs) → Holds g j xs
  holds-front j [] bs h = tt
  holds-front j (x ∷ xs) bs h = (h.0, holds-front (j + 1) xs bs h.1)

  pub holds-back : (j : ℕ) (xs bs : List ℕ) → Holds g j (xs ++ bs) → Holds g (j + length xs) bs
  holds-back j [] bs h = rw (add-zero j) h
  holds-back j (x ∷ xs) bs h =
      let e : j + 1 + length xs ≡ j + suc (length xs) = omega arith in
      rw (← e) (holds-back (j + 1) xs bs h.1)

  pub holds-join : (j : ℕ) (xs bs : List ℕ) → Holds g j xs → Holds g (j + length xs) bs → Holds g j (xs ++ bs)
  holds-join j [] bs h t = rw (add-zero j) at t
  holds-join j (x ∷ xs) bs h t =
      let e : j + suc (length xs) ≡ j + 1 + length xs = omega arith in
      (h.0, holds-join (j + 1) xs bs h.1 (rw e at t))

pub bits-append : (xs bs : List ℕ) → AreBits xs → AreBits bs → AreBits (xs ++ bs)
bits-append [] bs a b = b
bits-append (x ∷ xs) bs a b = (a.0, bits-append xs bs a.1 b)

-- one run of bits behind another
pub wrote-both : {l l' l'' : List ℕ} {j j' j'' : ℕ} (xs ys : List ℕ) → Wrote l j xs l' j' → Wrote l' j' ys l'' j'' → Wrote l j (xs ++ ys) l'' j''
wrote-both {l} {l'} {l''} {j} {j'} {j''} xs ys a b =
    record {
      at = omega (arith, a.at, b.at, length-append xs ys);
      buffer = b.buffer ∙ rw (a.buffer, a.at) (sym (put_bits-append l j xs ys));
    }

-- and where the first is written, the second is what is left of both
pub wrote-rest : {l l' m : List ℕ} {j j' n : ℕ} (xs ys : List ℕ) → Wrote l j xs l' j' → Wrote l j (xs ++ ys) m n → Wrote l' j' ys m n
wrote-rest {l} {l'} {m} {j} {j'} {n} xs ys a b =
    record {
      at = omega (arith, a.at, b.at, length-append xs ys);
      buffer = b.buffer ∙ rw (a.buffer, a.at) (put_bits-append l j xs ys);
    }

pub wrote_as : {l l' : List ℕ} {j j' : ℕ} (xs ys : List ℕ) → xs ≡ ys → Wrote l j xs l' j' → Wrote l j ys l' j'
wrote_as {l} {l'} {j} {j'} xs ys e w = subst (λ (bs : List ℕ). Wrote l j bs l' j') e w

pub wrote-length : (l : List ℕ) (j : ℕ) (bs l' : List ℕ) (j' : ℕ) → Wrote l j bs l' j' → length l' ≡ length l
wrote-length l j bs l' j' w = ap length w.buffer ∙ length-put_bits l j bs

pub room-front : (l : List ℕ) (j : ℕ) (xs ys : List ℕ) → Room l j (length (xs ++ ys)) → Room l j (length xs)
room-front l j xs ys r = record { within = omega (arith, r.within, length-append xs ys); small = omega (arith, r.small, length-append xs ys) }

-- and room for the second, where the first was written
pub room_back : (l : List ℕ) (j : ℕ) (xs ys l' : List ℕ) (j' : ℕ) → Wrote l j xs l' j' → Room l j (length (xs ++ ys)) → Room l' j' (length ys)
room_back l j xs ys l' j' w r =
    record {
      within = omega (arith, r.within, length-append xs ys, w.at, wrote-length l j xs l' j' w);
      small = omega (arith, r.small, length-append xs ys, w.at);
    }

pub room_as : (l : List ℕ) (j : ℕ) (xs ys : List ℕ) → xs ≡ ys → Room l j (length xs) → Room l j (length ys)
room_as l j xs ys e r = subst (λ (bs : List ℕ). Room l j (length bs)) e r

-- ---- a loop of writes

-- of all the bits that were to be put at j₀ of l₀ those before `rest` are put, and the next goes to j of l
pub record Reached (l₀ : List ℕ) (j₀ : ℕ) (all l : List ℕ) (j : ℕ) (rest : List ℕ) : Type 0 where
  pub long : length l ≡ length l₀
  pub left : Wrote l j rest (put_bits l₀ j₀ all) (j₀ + length all)

pub reached-first : (l : List ℕ) (j : ℕ) (all : List ℕ) → Reached l j all l j all
reached-first l j all = record { long = refl; left = record { at = refl; buffer = refl } }

module _ {l₀ : List ℕ} {j₀ : ℕ} {all l : List ℕ} {j : ℕ} (xs rest : List ℕ) (w : Reached l₀ j₀ all l j (xs ++ rest)) where
  pub reached-room : Room l₀ j₀ (length all) → Room l j (length xs)
  reached-room r =
      room-front l j xs rest (record { within = omega (arith, r.within, w.left.at, w.long); small = omega (arith, r.small, w.left.at) })

  pub reached-more : (l' : List ℕ) (j' : ℕ) → Wrote l j xs l' j' → Reached l₀ j₀ all l' j' rest
  reached-more l' j' one = record { long = wrote-length l j xs l' j' one ∙ w.long; left = wrote-rest xs rest one w.left }

pub reached-last : {l₀ : List ℕ} {j₀ : ℕ} {all l : List ℕ} {j : ℕ} → Reached l₀ j₀ all l j [] → Wrote l₀ j₀ all l j
reached-last w = record { at = omega (arith, w.left.at); buffer = sym w.left.buffer }
