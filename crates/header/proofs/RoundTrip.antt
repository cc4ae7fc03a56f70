-- What was written is read back: the same models and the same count, at the start where it was written; and how long a header is at most.
-- Assumes nothing.
use Prim.Native.Nat.{ℕ, zero, suc, ◌+◌, ◌*◌, ◌%◌, ◌≤◌, ◌<◌}
use mathlib.Core.Bool.{Bool, true, false, not}
use mathlib.Core.List.{List, ◌∷◌, ◌++◌}
use mathlib.Core.Path.{◌≡◌, refl, ap, sym, subst, ◌∙◌}
use native.Mathlib.Numerals.{add-one}
use native.Mathlib.Omega.{arith}
use borrow.Author.Tests.{ltb-false}
use lib.Dec.{lit≤}
use lib.IntN.{ℤ, pos}
use lib.ListN.{length, get_or, take, drop, length-append}
use lib.Seq.{take_all, take-add, drop-cons, drop-drop}
use Rattle.laws.specs.Refusal.{choose}
use Rattle.laws.proofs.Below.{each-fails}
use Rattle.bits.specs.Bits.{bit_at}
use Rattle.bits.proofs.Held.{Holds, AreBits}
use Rattle.bits.proofs.Buffer.{bit_at_lt, holds-front, holds-back, bits-append}
use Rattle.grid.specs.Grid.{abs_bits, prec_bits, centre, Codable, quantized}
use Rattle.grid.proofs.Table.{row-codable}
use Rattle.models.specs.Integers.{equal}
use Rattle.models.specs.Models.{carries, filler, slot_wrong, slot_at, model_wrong, model_at, models_wrong, prior_at, priors_out, type_at, types_over}
use Rattle.models.proofs.Integers.{same-equal}
use Rattle.header.specs.Reading.{reference_read, references_read, models_read}
use Rattle.header.specs.Inner.{ValidPrior, ModelReady, ModelCoded, HeaderReady, HeaderCoded}
use Rattle.header.specs.Writing.{slot_of, reference_bits, references_bits, header_bits, bits_placed, bytes_for}
use Rattle.header.proofs.Placed.{placed}
use Rattle.header.proofs.Reference.{reference-back, reference-bits, at-most-141-bits}
use Rattle.header.proofs.Valid.{ValidModel, six_of}

-- ---- what the refusals leave

right : (b : Bool) → not b ≡ false → b ≡ true
right true e = refl
right false e = sym e

module _ (gm_type flag : ℕ) (ps : List ℤ) (first : ℕ) where
  abbrev right_number : ℕ → ℤ
  right_number slot = choose (carries gm_type slot) (quantized gm_type flag slot (slot_of ps first slot)) (filler gm_type slot (slot_of ps first 2) (slot_of ps first 3))

  module _ (wrong : model_wrong gm_type flag ps first ≡ false) where
    right-number : (slot : ℕ) → slot < 6 → slot_of ps first slot ≡ right_number slot
    unfolding model_wrong slot_wrong
    right-number slot l =
        let e : slot_at gm_type flag ps first slot ≡ false = each-fails (slot_at gm_type flag ps first) 6 wrong slot l in
        same-equal (slot_of ps first slot) (right_number slot) (right (equal (slot_of ps first slot) (right_number slot)) e)

    pub carried-codable : (slot : ℕ) → slot < 6 → carries gm_type slot ≡ true → Codable (abs_bits gm_type flag slot) (prec_bits gm_type flag slot) (centre slot) (slot_of ps first slot)
    carried-codable slot l c =
        let e : slot_of ps first slot ≡ quantized gm_type flag slot (slot_of ps first slot) = rw c at (right-number slot l) in
        subst (Codable (abs_bits gm_type flag slot) (prec_bits gm_type flag slot) (centre slot)) (sym e) (row-codable gm_type flag slot (slot_of ps first slot))

  pub right-model : gm_type ≤ 3 → model_wrong gm_type flag ps first ≡ false → ValidModel gm_type flag ps first
  right-model known wrong = record { known = known; carried = carried-codable wrong; filled = λ slot l c. rw c at (right-number wrong slot l) }

pub valid-model : (types : List ℕ) (flag : ℕ) (ps : List ℤ) (r : ℕ) → r < length types → types_over types ≡ false → models_wrong types flag ps ≡ false
    → ValidModel (get_or types r 0) flag ps (6 * r)
unfolding types_over models_wrong
valid-model types flag ps r h known wrong =
    right-model (get_or types r 0) flag ps (6 * r) (ltb-false 3 (get_or types r 0) (each-fails (type_at types) (length types) known r h))
    (each-fails (model_at types flag ps) (length types) wrong r h)

pub valid-prior : (qs : List ℤ) (r : ℕ) → 6 * r + 6 ≤ length qs → priors_out qs ≡ false → ValidPrior qs (6 * r)
unfolding priors_out
valid-prior qs r h e =
    record {
      within = λ slot l.
          let m : (6 * r + slot) % 6 ≡ slot = omega arith in
          rw m at (each-fails (prior_at qs) (length qs) e (6 * r + slot) (omega arith));
    }

-- what a function of one model asks, from what one of all asks
pub model-ready : (types : List ℕ) (ps qs : List ℤ) (r : ℕ) → HeaderReady types ps qs → r < 7 → ModelReady ps qs (6 * r)
model-ready types ps qs r h l =
    record {
      numbers = omega (arith, h.all.numbers);
      places = omega (arith, h.all.places);
      priors = valid-prior qs r (omega (arith, h.all.places)) h.within;
    }

pub model-coded : (types : List ℕ) (ps : List ℤ) (flag : ℕ) (qs : List ℤ) (r : ℕ) → HeaderCoded types ps flag qs → r < 7 → ModelCoded (get_or types r 0) flag ps qs (6 * r)
unfolding models_wrong
model-coded types ps flag qs r h l =
    record {
      ready = model-ready types ps qs r h.ready l;
      right = each-fails (model_at types flag ps) (length types) h.right r (omega (arith, h.ready.all.seven));
    }

-- ---- seven references

taken_at : (ps : List ℤ) (k n o : ℕ) → k + o < length ps → take (suc n) (drop (k + o) ps) ≡ get_or ps (k + o) (pos 0) ∷ take n (drop (k + suc o) ps)
taken_at ps k n o h =
    let e : k + suc o ≡ suc (k + o) = omega arith in
    rw (e, drop-cons ps (k + o) (pos 0) h)

-- six numbers of a list
six-taken : (ps : List ℤ) (k : ℕ) → k + 6 ≤ length ps → take 6 (drop k ps) ≡ six_of ps k
six-taken ps k h =
    let front : ℤ → List ℤ → List ℤ = λ z l. z ∷ l in
    ap (λ (i : ℕ). take 6 (drop i ps)) (let e : k ≡ k + 0 = omega arith in e)
    ∙ taken_at ps k 5 0 (omega arith)
    ∙ ap (front (slot_of ps k 0)) (taken_at ps k 4 1 (omega arith)
    ∙ ap (front (slot_of ps k 1)) (taken_at ps k 3 2 (omega arith)
    ∙ ap (front (slot_of ps k 2)) (taken_at ps k 2 3 (omega arith)
    ∙ ap (front (slot_of ps k 3)) (taken_at ps k 1 4 (omega arith)
    ∙ ap (front (slot_of ps k 4)) (taken_at ps k 0 5 (omega arith))))))

pub six-more : (ps : List ℤ) (n r : ℕ) → 6 * r + 6 ≤ length ps → take (6 * suc n) (drop (6 * r) ps) ≡ six_of ps (6 * r) ++ take (6 * n) (drop (6 * (r + 1)) ps)
six-more ps n r h =
    let m : 6 * suc n ≡ 6 + 6 * n = omega arith in
    let e : 6 * (r + 1) ≡ 6 * r + 6 = omega arith in
    rw (m, take-add 6 (6 * n) (drop (6 * r) ps), six-taken ps (6 * r) h, drop-drop 6 (6 * r) ps, e)

pub one_more : (types : List ℕ) (n r : ℕ) → r < length types → take (suc n) (drop r types) ≡ get_or types r 0 ∷ take n (drop (r + 1) types)
one_more types n r h = rw (add-one r, drop-cons types r 0 h)

module _ (flag : ℕ) (types : List ℕ) (ps qs : List ℤ) where
  pub references-bits : (n r : ℕ) → AreBits (references_bits flag ps qs types n r)
  references-bits zero r = tt
  references-bits (suc n) r =
      bits-append (reference_bits flag ps qs (get_or types r 0) (6 * r)) (references_bits flag ps qs types n (r + 1)) (reference-bits flag ps qs (6 * r) (get_or types r 0)) (references-bits n (r + 1))

  references-length : (n r : ℕ) → length (references_bits flag ps qs types n r) ≤ 141 * n
  references-length zero r = lit≤ tt
  references-length (suc n) r =
      omega (
        arith,
        length-append (reference_bits flag ps qs (get_or types r 0) (6 * r)) (references_bits flag ps qs types n (r + 1)),
        at-most-141-bits flag ps qs (6 * r) (get_or types r 0),
        references-length n (r + 1),
      )

  pub at-most-987-bits : length (header_bits types ps flag qs) ≤ 987
  unfolding header_bits
  at-most-987-bits = references-length 7 0

  pub header-bits : AreBits (header_bits types ps flag qs)
  unfolding header_bits
  header-bits = references-bits 7 0

  -- 125 bytes suffice from any bit of the first one on
  pub at-most-125-bytes : (start : ℕ) → start < 8 → bytes_for start (length (header_bits types ps flag qs)) ≤ 125
  at-most-125-bytes start h = omega (arith, at-most-987-bits)

-- the refusals of a writing call that don't hold
pub record Writable (types : List ℕ) (ps : List ℤ) (flag : ℕ) (qs : List ℤ) : Type 0 where
  pub seven : length types ≡ 7
  pub models : length ps ≡ 42
  pub priors : length qs ≡ 42
  pub known : types_over types ≡ false
  pub right : models_wrong types flag ps ≡ false
  pub within : priors_out qs ≡ false

-- the first m references can be written and read back, whatever the others are
pub record Coded (m : ℕ) (types : List ℕ) (ps : List ℤ) (flag : ℕ) (qs : List ℤ) : Type 0 where
  pub types_there : m ≤ length types
  pub models_there : 6 * m ≤ length ps
  pub valid : (r : ℕ) → r < m → ValidModel (get_or types r 0) flag ps (6 * r)
  pub priors : (r : ℕ) → r < m → ValidPrior qs (6 * r)

module _ (types : List ℕ) (ps : List ℤ) (flag : ℕ) (qs : List ℤ) (m : ℕ) (k : Coded m types ps flag qs) where
  pub references-back : (g : ℕ → ℕ) → ((i : ℕ) → g i < 2) → (n r j : ℕ) → r + n ≤ m → Holds g j (references_bits flag ps qs types n r)
      → references_read g flag qs n r j ≡ record { types = take n (drop r types); params = take (6 * n) (drop (6 * r) ps); bits = length (references_bits flag ps qs types n r) }
  references-back g bits zero r j l h = refl
  references-back g bits (suc n) r j l h =
      let types_there : m ≤ length types = k.types_there in
      let models_there : 6 * m ≤ length ps = k.models_there in
      let xs : List ℕ = reference_bits flag ps qs (get_or types r 0) (6 * r) in
      let ys : List ℕ = references_bits flag ps qs types n (r + 1) in
      let here : reference_read g flag qs (6 * r) j ≡ record { gm_type = get_or types r 0; six = six_of ps (6 * r); bits = length xs } =
      reference-back g bits flag ps qs (6 * r) (k.priors r (omega arith)) (get_or types r 0) j (k.valid r (omega arith)) (holds-front g j xs ys h) in
      let rest : references_read g flag qs n (r + 1) (j + length xs) ≡ record { types = take n (drop (r + 1) types); params = take (6 * n) (drop (6 * (r + 1)) ps); bits = length ys } =
      references-back g bits n (r + 1) (j + length xs) (omega arith) (holds-back g j xs ys h) in
      rw (here, rest, length-append xs ys, six-more ps n r (omega arith), one_more types n r (omega arith))

module _ (types : List ℕ) (ps : List ℤ) (flag : ℕ) (qs : List ℤ) (w : Writable types ps flag qs) where
  -- all seven
  pub coded-seven : Coded 7 types ps flag qs
  coded-seven =
      let seven : length types ≡ 7 = w.seven in
      let priors : length qs ≡ 42 = w.priors in
      record {
        types_there = omega arith;
        models_there = omega (arith, w.models);
        valid = λ r l. valid-model types flag ps r (omega arith) w.known w.right;
        priors = λ r l. valid-prior qs r (omega arith) w.within;
      }

  -- reading by the standard from where the bits stand
  pub read_back : (header : List ℕ) (at : ℕ) → Holds (bit_at header) at (header_bits types ps flag qs)
      → models_read header at flag qs ≡ record { types = types; params = ps; bits = length (header_bits types ps flag qs) }
  unfolding models_read header_bits
  read_back header at h =
      references-back types ps flag qs 7 coded-seven (bit_at header) (bit_at_lt header) 7 0 at (lit≤ tt) h
      ∙ rw (take_all 7 types (omega (arith, w.seven)), take_all 42 ps (omega (arith, w.models)))

  -- written from `start` on, then read there: the same models and the same count
  pub round_trip : (start : ℕ) (old : List ℕ) → bytes_for start (length (header_bits types ps flag qs)) ≤ length old
      → models_read (bits_placed start (header_bits types ps flag qs) old) start flag qs ≡ record { types = types; params = ps; bits = length (header_bits types ps flag qs) }
  round_trip start old room =
      read_back (bits_placed start (header_bits types ps flag qs) old) start (placed start (header_bits types ps flag qs) old (header-bits flag types ps qs) room).there
