-- What was read can be written: each type is known, its carried slots are codable, the others filled, so no row refuses it.
-- Assumes nothing.
use Prim.Native.Nat.{ℕ, zero, suc, ◌+◌, ◌*◌, ◌≤◌, ◌<◌}
use mathlib.Core.Bool.{true, false}
use mathlib.Core.List.{List, [], ◌∷◌}
use mathlib.Core.Logic.{⊎_elim}
use mathlib.Core.Path.{◌≡◌, ap, sym, subst, ◌∙◌}
use native.Mathlib.Omega.{arith}
use borrow.Author.Tests.{le-ltb}
use lib.Dec.{lit<}
use lib.IntN.{ℤ, pos, neg_ℤ}
use lib.ListN.{length, get_or, take, drop}
use Rattle.laws.proofs.Below.{none-holds}
use Rattle.laws.proofs.Cases.{outcome, eq-or-ne}
use Rattle.bits.specs.Bits.{bit_at}
use Rattle.bits.proofs.Buffer.{bit_at_lt}
use Rattle.grid.specs.Grid.{abs_bits, prec_bits, centre, Codable, quantized}
use Rattle.grid.proofs.Table.{row-own}
use Rattle.grid.specs.Slots.{slots_of}
use Rattle.grid.proofs.Slots.{Known, slots-known}
use Rattle.models.specs.Models.{carries, filler, slot_wrong, slot_at, model_wrong, model_at, models_wrong, priors_out, type_at, types_over}
use Rattle.models.proofs.Integers.{equal-same}
use Rattle.header.specs.Coefficient.{coefficient}
use Rattle.header.specs.Reading.{type_read, type_length, six_filled, slots_read, model_read, reference_read, models_read}
use Rattle.header.specs.Inner.{ValidPrior}
use Rattle.header.specs.Writing.{slot_of, header_bits, bytes_for, write_refusal}
use Rattle.header.proofs.Coefficient.{coefficient-codable}
use Rattle.header.proofs.Accepted as writing
use Rattle.header.proofs.Reference.{numbers_of, OnGrid}
use Rattle.header.proofs.RoundTrip.{Writable, valid-prior}
use Rattle.header.proofs.Valid.{ValidModel}
use Rattle.header_read.proofs.Rewritten.{slot_read, numbers-read, Reads, type-again, Stands, stands-type, stands-six, stands-later, gm-type, stands, seven-types, params-42}

-- a fact of each slot of six
six-slots : (P : ℕ → Type 0) → P 0 → P 1 → P 2 → P 3 → P 4 → P 5 → (slot : ℕ) → slot < 6 → P slot
six-slots P a b c d e f zero l = a
six-slots P a b c d e f (suc zero) l = b
six-slots P a b c d e f (suc (suc zero)) l = c
six-slots P a b c d e f (suc (suc (suc zero))) l = d
six-slots P a b c d e f (suc (suc (suc (suc zero)))) l = e
six-slots P a b c d e f (suc (suc (suc (suc (suc zero))))) l = f
six-slots P a b c d e f (suc (suc (suc (suc (suc (suc n)))))) l = absurd (omega arith)

false-true : {A : Type 0} → false ≡ true → A
false-true {A} e = absurd (let z : ◌≡◌ {A = ℕ} 0 1 = cc in omega arith)

true-false : {A : Type 0} → true ≡ false → A
true-false {A} e = absurd (let z : ◌≡◌ {A = ℕ} 0 1 = cc in omega arith)

module _ (g : ℕ → ℕ) (bits : (i : ℕ) → g i < 2) (flag : ℕ) (qs ps : List ℤ) (first : ℕ) (priors : ValidPrior qs first) where
  -- the numbers read are on their slots' grids
  slots-codable : (gm_type : ℕ) (ss : List ℕ) (j : ℕ) → Known ss → (slots_read g flag qs gm_type first ss j).values ≡ numbers_of ps first ss → OnGrid gm_type flag ps first ss
  slots-codable gm_type [] j k e = tt
  slots-codable gm_type (s ∷ ss) j k e = (
    subst (Codable (abs_bits gm_type flag s) (prec_bits gm_type flag s) (centre s)) (ap (λ (l : List ℤ). get_or l 0 (pos 0)) e)
        (coefficient-codable gm_type flag s g bits j (slot_of qs first s) (priors.within s k.0)),
    slots-codable gm_type ss (j + (coefficient g j gm_type flag s (slot_of qs first s)).bits) k.1 (ap (λ (l : List ℤ). drop 1 l) e),
  )

  -- a slot that is filled holds what fills it
  Filled : ℕ → ℕ → Type 0
  Filled gm_type slot = carries gm_type slot ≡ false → slot_of ps first slot ≡ filler gm_type slot (slot_of ps first 2) (slot_of ps first 3)

  Carried : ℕ → ℕ → Type 0
  Carried gm_type slot = carries gm_type slot ≡ true → Codable (abs_bits gm_type flag slot) (prec_bits gm_type flag slot) (centre slot) (slot_of ps first slot)

  carried : (gm_type : ℕ) → gm_type ≤ 3 → OnGrid gm_type flag ps first (slots_of gm_type) → (slot : ℕ) → slot < 6 → Carried gm_type slot
  unfolding Carried
  carried zero l o = λ slot h c. false-true c
  carried (suc zero) l o = six-slots (Carried 1) (λ c. o.0) (λ c. o.1.0) false-true false-true false-true false-true
  carried (suc (suc zero)) l o = six-slots (Carried 2) (λ c. o.1.1.0) (λ c. o.1.1.1.0) (λ c. o.0) (λ c. o.1.0) false-true false-true
  carried (suc (suc (suc zero))) l o =
      six-slots (Carried 3) (λ c. o.1.1.1.1.0) (λ c. o.1.1.1.1.1.0) (λ c. o.0) (λ c. o.1.0) (λ c. o.1.1.0) (λ c. o.1.1.1.0)
  carried (suc (suc (suc (suc n)))) l o = absurd (omega arith)

  filled : (gm_type j : ℕ) → gm_type ≤ 3 → Reads g bits flag qs ps first priors (model_read g flag qs gm_type first j) → (slot : ℕ) → slot < 6 → Filled gm_type slot
  unfolding Filled filler model_read six_filled
  filled zero j l e = six-slots (Filled 0) (λ c. e 0 (lit< tt)) (λ c. e 1 (lit< tt)) (λ c. e 2 (lit< tt)) (λ c. e 3 (lit< tt)) (λ c. e 4 (lit< tt)) (λ c. e 5 (lit< tt))
  filled (suc zero) j l e = six-slots (Filled 1) true-false true-false (λ c. e 2 (lit< tt)) (λ c. e 3 (lit< tt)) (λ c. e 4 (lit< tt)) (λ c. e 5 (lit< tt))
  filled (suc (suc zero)) j l e =
      six-slots (Filled 2) true-false true-false true-false true-false (λ c. e 4 (lit< tt) ∙ ap neg_ℤ (sym (e 3 (lit< tt)))) (λ c. e 5 (lit< tt) ∙ sym (e 2 (lit< tt)))
  filled (suc (suc (suc zero))) j l e = λ slot h c. true-false c
  filled (suc (suc (suc (suc n)))) j l e = absurd (omega arith)

  model-valid : (gm_type j : ℕ) → gm_type ≤ 3 → Reads g bits flag qs ps first priors (model_read g flag qs gm_type first j) → ValidModel gm_type flag ps first
  unfolding Filled Carried
  model-valid gm_type j l e =
      record {
        known = l;
        carried = carried gm_type l (slots-codable gm_type (slots_of gm_type) j (slots-known gm_type) (numbers-read g bits flag qs ps first priors gm_type j l e));
        filled = filled gm_type j l e;
      }

  -- a reference read, whose six numbers stand in ps
  pub reference-valid : (j : ℕ) → take 6 (drop first ps) ≡ (reference_read g flag qs first j).six → ValidModel (type_read g j) flag ps first
  unfolding reference_read
  reference-valid j e =
      model-valid (type_read g j) (j + type_length (type_read g j)) (type-again g bits flag qs j).known (slot_read ps _ first e)

module _ (g : ℕ → ℕ) (bits : (i : ℕ) → g i < 2) (flag : ℕ) (qs : List ℤ) (priors : (r : ℕ) → r < 7 → ValidPrior qs (6 * r)) (types : List ℕ) (ps : List ℤ) where
  -- reference k of those that stand in `types` and `ps` from r on
  references-valid : (n r j : ℕ) → Stands g bits flag qs types ps n r j → (k : ℕ) → r ≤ k → k < r + n → ValidModel (get_or types k 0) flag ps (6 * k)
  references-valid zero r j s k h l = absurd (omega arith)
  references-valid (suc n) r j s k h l =
      ⊎_elim
      (λ (e : k ≡ r).
      let t : get_or types r 0 ≡ type_read g j = stands-type g bits flag qs types ps n r j s ∙ gm-type g bits flag qs (6 * r) j in
      rw (e, t) (reference-valid g bits flag qs ps (6 * r) (priors r (omega (arith, s.within))) j (stands-six g bits flag qs types ps n r j s)))
      (λ (e : k ≡ r → ⊥). references-valid n (r + 1) (j + (reference_read g flag qs (6 * r) j).bits) (stands-later g bits flag qs types ps n r j s) k (omega arith) (omega arith))
      (eq-or-ne k r)

-- ---- no row refuses a valid model

module _ (gm_type flag : ℕ) (ps : List ℤ) (first : ℕ) (v : ValidModel gm_type flag ps first) where
  slot-right : (slot : ℕ) → slot < 6 → slot_at gm_type flag ps first slot ≡ false
  unfolding slot_wrong
  slot-right slot l =
      ⊎_elim
      (λ (c : carries gm_type slot ≡ true).
      rw (c, equal-same (slot_of ps first slot) (quantized gm_type flag slot (slot_of ps first slot)) (sym (row-own gm_type flag slot (slot_of ps first slot) (v.carried slot l c)))))
      (λ (c : carries gm_type slot ≡ false).
      rw (c, equal-same (slot_of ps first slot) (filler gm_type slot (slot_of ps first 2) (slot_of ps first 3)) (v.filled slot l c)))
      (outcome (carries gm_type slot))

  pub model-right : model_wrong gm_type flag ps first ≡ false
  unfolding model_wrong
  model-right = none-holds (slot_at gm_type flag ps first) 6 slot-right

-- ---- the header

pub all-priors : (qs : List ℤ) → length qs ≡ 42 → priors_out qs ≡ false → (r : ℕ) → r < 7 → ValidPrior qs (6 * r)
all-priors qs e o r l = valid-prior qs r (omega arith) o

module _ (header : List ℕ) (at flag : ℕ) (qs : List ℤ) (long : length qs ≡ 42) (within : priors_out qs ≡ false) where
  abbrev types : List ℕ
  types = (models_read header at flag qs).types

  abbrev params : List ℤ
  params = (models_read header at flag qs).params

  pub valid : (k : ℕ) → k < 7 → ValidModel (get_or types k 0) flag params (6 * k)
  valid k l =
      references-valid (bit_at header) (bit_at_lt header) flag qs (all-priors qs long within) types params 7 0 at (stands header at flag qs) k
      (omega arith) (omega arith)

  below-seven : (k : ℕ) → k < length types → k < 7
  below-seven k l = omega (arith, seven-types header at flag qs)

  pub writable : Writable types params flag qs
  unfolding types_over models_wrong
  writable =
      record {
        seven = seven-types header at flag qs;
        models = params-42 header at flag qs;
        priors = long;
        known = none-holds (type_at types) (length types) (λ k l. le-ltb 3 (get_or types k 0) (valid k (below-seven k l)).known);
        right = none-holds (model_at types flag params) (length types) (λ k l. model-right (get_or types k 0) flag params (6 * k) (valid k (below-seven k l)));
        within = within;
      }

  -- a writing call with room for it refuses nothing
  pub not-refused : flag ≤ 1 → (start room : ℕ) → start < 8 → bytes_for start (length (header_bits types params flag qs)) ≤ room
      → write_refusal start types params flag qs room ≡ 0
  not-refused f start room low h =
      writing.not-refused types params flag qs start room (record { writable = writable; flagged = f; low = low; roomy = h })
