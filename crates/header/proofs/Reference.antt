-- A reference that was written is read back: its type, its six numbers, and exactly its bits. One induction over the slots that the type carries.
-- Assumes nothing.
use Prim.Native.Nat.{ℕ, zero, suc, ◌+◌, ◌*◌, ◌≤◌, ◌<◌}
use mathlib.Core.List.{List, [], ◌∷◌, ◌++◌}
use mathlib.Core.Path.{◌≡◌, refl, ap, subst}
use native.Mathlib.Omega.{arith}
use lib.Dec.{eqb, lit<, lit≤}
use lib.IntN.{ℤ}
use lib.ListN.{length, length-append}
use Rattle.bits.proofs.Held.{Holds, AreBits}
use Rattle.bits.proofs.Buffer.{holds-front, holds-back, bits-append}
use Rattle.grid.specs.Grid.{abs_bits, prec_bits, centre, Codable}
use Rattle.grid.specs.Slots.{slots_of}
use Rattle.grid.proofs.Slots.{chosen, Known, slots-known, six-slots-at-most}
use Rattle.models.specs.Models.{filler}
use Rattle.header.specs.Coefficient.{coefficient}
use Rattle.header.specs.Inner.{ValidPrior}
use Rattle.header.specs.Reading.{type_read, type_length, six_filled, slots_read, model_read, reference_read}
use Rattle.header.specs.Writing.{slot_of, type_bits, slot_bits, slots_bits, model_bits, reference_bits}
use Rattle.header.proofs.Coefficient.{coefficient-read, coefficient_bits-are-bits, at-most-23-bits}
use Rattle.header.proofs.Valid.{ValidModel, six_of}

-- ---- the type bits

module _ (g : ℕ → ℕ) where
  -- they say the type
  type-back : (gm_type j : ℕ) → gm_type ≤ 3 → Holds g j (type_bits gm_type) → type_read g j ≡ gm_type
  type-back zero j l h = rw h.0
  type-back (suc zero) j l h =
      let second : g (j + 1) ≡ 0 = h.1.0 in
      let e : j + 1 + 1 ≡ j + 2 = omega arith in
      let third : g (j + 2) ≡ 1 = subst (λ (k : ℕ). g k ≡ 1) e h.1.1.0 in
      rw (h.0, second, third)
  type-back (suc (suc zero)) j l h = rw (h.0, h.1.0)
  type-back (suc (suc (suc zero))) j l h =
      let second : g (j + 1) ≡ 0 = h.1.0 in
      let e : j + 1 + 1 ≡ j + 2 = omega arith in
      let third : g (j + 2) ≡ 0 = subst (λ (k : ℕ). g k ≡ 0) e h.1.1.0 in
      rw (h.0, second, third)
  type-back (suc (suc (suc (suc n)))) j l h = absurd (omega arith)

-- and how many they are
pub type-count : (gm_type : ℕ) → gm_type ≤ 3 → length (type_bits gm_type) ≡ type_length gm_type
type-count zero l = refl
type-count (suc zero) l = refl
type-count (suc (suc zero)) l = refl
type-count (suc (suc (suc zero))) l = refl
type-count (suc (suc (suc (suc n)))) l = absurd (omega arith)

type-bits : (gm_type : ℕ) → AreBits (type_bits gm_type)
type-bits gm_type =
    chosen AreBits (eqb gm_type 0) (0 ∷ []) _ (lit< tt, tt)
    (chosen AreBits (eqb gm_type 2) (1 ∷ 1 ∷ []) _ (lit< tt, (lit< tt, tt))
    (chosen AreBits (eqb gm_type 1) (1 ∷ 0 ∷ 1 ∷ []) (1 ∷ 0 ∷ 0 ∷ []) (lit< tt, (lit< tt, (lit< tt, tt))) (lit< tt, (lit< tt, (lit< tt, tt)))))

pub three-type-bits : (gm_type : ℕ) → length (type_bits gm_type) ≤ 3
three-type-bits gm_type =
    chosen (λ bs. length bs ≤ 3) (eqb gm_type 0) (0 ∷ []) _ (lit≤ tt)
    (chosen (λ bs. length bs ≤ 3) (eqb gm_type 2) (1 ∷ 1 ∷ []) _ (lit≤ tt) (chosen (λ bs. length bs ≤ 3) (eqb gm_type 1) (1 ∷ 0 ∷ 1 ∷ []) (1 ∷ 0 ∷ 0 ∷ []) (lit≤ tt) (lit≤ tt)))

-- ---- the slots, read back

-- the numbers of a list of slots, of the model whose six begin at `first`
abbrev pub numbers_of : List ℤ → ℕ → List ℕ → List ℤ
numbers_of ps first [] = []
numbers_of ps first (slot ∷ slots) = slot_of ps first slot ∷ numbers_of ps first slots

-- each of them is on its slot's grid
abbrev pub OnGrid : ℕ → ℕ → List ℤ → ℕ → List ℕ → Type 0
OnGrid gm_type flag ps first [] = Unit {0}
OnGrid gm_type flag ps first (slot ∷ slots) = Codable (abs_bits gm_type flag slot) (prec_bits gm_type flag slot) (centre slot) (slot_of ps first slot) × OnGrid gm_type flag ps first slots

module _ (g : ℕ → ℕ) (bits : (i : ℕ) → g i < 2) (flag : ℕ) (ps qs : List ℤ) (first : ℕ) (priors : ValidPrior qs first) where
  slots-back : (gm_type : ℕ) (ss : List ℕ) (j : ℕ) → Known ss → OnGrid gm_type flag ps first ss → Holds g j (slots_bits flag ps qs gm_type first ss)
      → slots_read g flag qs gm_type first ss j ≡ record { values = numbers_of ps first ss; bits = length (slots_bits flag ps qs gm_type first ss) }
  slots-back gm_type [] j k o h = refl
  slots-back gm_type (s ∷ ss) j k o h =
      let xs : List ℕ = slot_bits flag ps qs gm_type first s in
      let ys : List ℕ = slots_bits flag ps qs gm_type first ss in
      let e : coefficient g j gm_type flag s (slot_of qs first s) ≡ record { value = slot_of ps first s; bits = length xs } =
      coefficient-read gm_type flag s g bits j (slot_of qs first s) (priors.within s k.0) (slot_of ps first s) o.0 (holds-front g j xs ys h) in
      let rest : slots_read g flag qs gm_type first ss (j + length xs) ≡ record { values = numbers_of ps first ss; bits = length ys } =
      slots-back gm_type ss (j + length xs) k.1 o.1 (holds-back g j xs ys h) in
      rw (e, rest, length-append xs ys)

-- the carried slots are on the grid
carried-on-grid : (gm_type flag : ℕ) (ps : List ℤ) (first : ℕ) → ValidModel gm_type flag ps first → OnGrid gm_type flag ps first (slots_of gm_type)
carried-on-grid zero flag ps first v = tt
carried-on-grid (suc zero) flag ps first v = (v.carried 0 (lit< tt) refl, (v.carried 1 (lit< tt) refl, tt))
carried-on-grid (suc (suc zero)) flag ps first v =
    (v.carried 2 (lit< tt) refl, (v.carried 3 (lit< tt) refl, (v.carried 0 (lit< tt) refl, (v.carried 1 (lit< tt) refl, tt))))
carried-on-grid (suc (suc (suc zero))) flag ps first v =
    (v.carried 2 (lit< tt) refl, (v.carried 3 (lit< tt) refl, (v.carried 4 (lit< tt) refl, (v.carried 5 (lit< tt) refl, (v.carried 0 (lit< tt) refl, (v.carried 1 (lit< tt) refl, tt))))))
carried-on-grid (suc (suc (suc (suc n)))) flag ps first v = absurd (omega (arith, v.known))

-- the six of a valid model follow from its carried slots
six-back : (gm_type flag : ℕ) (ps : List ℤ) (first : ℕ) → ValidModel gm_type flag ps first → six_filled gm_type (numbers_of ps first (slots_of gm_type)) ≡ six_of ps first
unfolding six_filled filler
six-back zero flag ps first v =
    rw (v.filled 0 (lit< tt) refl, v.filled 1 (lit< tt) refl, v.filled 2 (lit< tt) refl, v.filled 3 (lit< tt) refl, v.filled 4 (lit< tt) refl, v.filled 5 (lit< tt) refl)
six-back (suc zero) flag ps first v = rw (v.filled 2 (lit< tt) refl, v.filled 3 (lit< tt) refl, v.filled 4 (lit< tt) refl, v.filled 5 (lit< tt) refl)
six-back (suc (suc zero)) flag ps first v = rw (v.filled 4 (lit< tt) refl, v.filled 5 (lit< tt) refl)
six-back (suc (suc (suc zero))) flag ps first v = refl
six-back (suc (suc (suc (suc n)))) flag ps first v = absurd (omega (arith, v.known))

module _ (g : ℕ → ℕ) (bits : (i : ℕ) → g i < 2) (flag : ℕ) (ps qs : List ℤ) (first : ℕ) (priors : ValidPrior qs first) where
  model-back : (gm_type j : ℕ) → ValidModel gm_type flag ps first → Holds g j (model_bits flag ps qs gm_type first)
      → model_read g flag qs gm_type first j ≡ record { gm_type = gm_type; six = six_of ps first; bits = length (model_bits flag ps qs gm_type first) }
  unfolding model_read model_bits
  model-back gm_type j v h =
      rw (slots-back g bits flag ps qs first priors gm_type (slots_of gm_type) j (slots-known gm_type) (carried-on-grid gm_type flag ps first v) h)
      (ap (λ (l : List ℤ). record { gm_type = gm_type; six = l; bits = length (slots_bits flag ps qs gm_type first (slots_of gm_type)) }) (six-back gm_type flag ps first v))

  pub reference-back : (gm_type j : ℕ) → ValidModel gm_type flag ps first → Holds g j (reference_bits flag ps qs gm_type first)
      → reference_read g flag qs first j ≡ record { gm_type = gm_type; six = six_of ps first; bits = length (reference_bits flag ps qs gm_type first) }
  unfolding reference_read reference_bits
  reference-back gm_type j v h =
      let xs : List ℕ = type_bits gm_type in
      let ys : List ℕ = model_bits flag ps qs gm_type first in
      let t : type_read g j ≡ gm_type = type-back g gm_type j v.known (holds-front g j xs ys h) in
      let c : length xs ≡ type_length gm_type = type-count gm_type v.known in
      let later : Holds g (j + type_length gm_type) ys = subst (λ (n : ℕ). Holds g (j + n) ys) c (holds-back g j xs ys h) in
      let m : model_read g flag qs gm_type first (j + type_length gm_type) ≡ record { gm_type = gm_type; six = six_of ps first; bits = length ys } =
      model-back gm_type (j + type_length gm_type) v later in
      let count : length (xs ++ ys) ≡ type_length gm_type + length ys = omega (arith, length-append xs ys, c) in
      rw (t, m, count)

-- ---- the bits of a reference, and how many they are at most

module _ (flag : ℕ) (ps qs : List ℤ) (first gm_type : ℕ) where
  slots-bits : (ss : List ℕ) → AreBits (slots_bits flag ps qs gm_type first ss)
  slots-bits [] = tt
  slots-bits (s ∷ ss) =
      bits-append (slot_bits flag ps qs gm_type first s) (slots_bits flag ps qs gm_type first ss) (coefficient_bits-are-bits gm_type flag s (slot_of ps first s) (slot_of qs first s)) (slots-bits ss)

  slots_length : (ss : List ℕ) → length (slots_bits flag ps qs gm_type first ss) ≤ 23 * length ss
  slots_length [] = lit≤ tt
  slots_length (s ∷ ss) =
      omega (arith, length-append (slot_bits flag ps qs gm_type first s) (slots_bits flag ps qs gm_type first ss), at-most-23-bits gm_type flag s (slot_of ps first s) (slot_of qs first s), slots_length ss)

  pub reference-bits : AreBits (reference_bits flag ps qs gm_type first)
  unfolding reference_bits model_bits
  reference-bits = bits-append (type_bits gm_type) (slots_bits flag ps qs gm_type first (slots_of gm_type)) (type-bits gm_type) (slots-bits (slots_of gm_type))

  pub at-most-141-bits : length (reference_bits flag ps qs gm_type first) ≤ 141
  unfolding reference_bits model_bits
  at-most-141-bits =
      omega (arith, length-append (type_bits gm_type) (slots_bits flag ps qs gm_type first (slots_of gm_type)), three-type-bits gm_type, slots_length (slots_of gm_type), six-slots-at-most gm_type)
