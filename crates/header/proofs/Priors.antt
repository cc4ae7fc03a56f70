-- A model that a header can carry is a prior in range for each type under either flag, whatever its own type and flag; and so are seven that no row refuses.
-- Assumes nothing.
use Prim.Native.Nat.{ℕ, ◌+◌, ◌*◌, ◌/◌, ◌%◌, ◌≤◌, ◌<◌}
use mathlib.Core.Bool.{true, false}
use mathlib.Core.List.{List}
use mathlib.Core.Logic.{⊎_elim}
use mathlib.Core.Path.{◌≡◌, refl, sym, subst}
use native.Mathlib.Omega.{arith}
use borrow.Author.Tests.{le-ltb, ltb-false, eq-eqb, ne_eqb}
use lib.Dec.{ltb, eqb, lit<}
use lib.IntN.{ℤ, pos, neg_ℤ, nat_abs, ◌-ℤ◌, +ℤ_idr}
use lib.ListN.{length, get_or}
use Rattle.laws.specs.Refusal.{choose}
use Rattle.laws.proofs.Below.{none-holds}
use Rattle.laws.proofs.Cases.{outcome, eq-or-ne}
use Rattle.laws.proofs.Signed.{nat_abs-neg}
use Rattle.grid.specs.Grid.{centre}
use Rattle.grid.specs.Symbols.{prior_reach, prior_out, PriorFor}
use Rattle.grid.proofs.Reach.{codable-prior, prior-for}
use Rattle.grid.proofs.Signs.{apart_of}
use Rattle.models.specs.Models.{carries, filler, types_over, models_wrong, prior_at, priors_out}
use Rattle.header.specs.Inner.{ValidPrior}
use Rattle.header.specs.Writing.{slot_of}
use Rattle.header.proofs.RoundTrip.{valid-model}
use Rattle.header.proofs.Valid.{ValidModel}

-- ---- what fills a slot that isn't carried

-- its centre
centre-prior : (slot : ℕ) → prior_out slot (pos (centre slot)) ≡ false
centre-prior slot = le-ltb (prior_reach slot) (nat_abs (pos (centre slot) -ℤ pos (centre slot))) (rw (apart_of (centre slot) (centre slot)) (omega arith))

-- −[3] in slot 4, for a [3] in range
opposite-prior : (z : ℤ) → prior_out 3 z ≡ false → prior_out 4 (neg_ℤ z) ≡ false
opposite-prior z h =
    le-ltb 8192 (nat_abs (neg_ℤ z -ℤ pos 0))
    (rw (+ℤ_idr (neg_ℤ z), nat_abs-neg z) (rw (+ℤ_idr z) at (ltb-false 8192 (nat_abs (z -ℤ pos 0)) h)))

-- ROTZOOM's pair, for a [2] and a [3] in range
pair-prior : (p2 p3 : ℤ) → prior_out 2 p2 ≡ false → prior_out 3 p3 ≡ false → (slot : ℕ) → 4 ≤ slot → slot < 6
    → prior_out slot (choose (eqb slot 4) (neg_ℤ p3) p2) ≡ false
pair-prior p2 p3 h2 h3 slot low high =
    ⊎_elim
    (λ (e : slot ≡ 4). subst (λ (k : ℕ). prior_out k (choose (eqb k 4) (neg_ℤ p3) p2) ≡ false) (sym e) (opposite-prior p3 h3))
    (λ (n : slot ≡ 4 → ⊥).
    let e : 5 ≡ slot = omega arith in
    subst (λ (k : ℕ). prior_out k (choose (eqb k 4) (neg_ℤ p3) p2) ≡ false) e h2)
    (eq-or-ne slot 4)

module _ (gm_type flag : ℕ) (ps : List ℤ) (first : ℕ) (v : ValidModel gm_type flag ps first) where
  filled-prior : (slot : ℕ) → slot < 6 → carries gm_type slot ≡ false → prior_out slot (filler gm_type slot (slot_of ps first 2) (slot_of ps first 3)) ≡ false
  unfolding filler
  filled-prior slot l c =
      ⊎_elim
      (λ (t : gm_type ≡ 2).
      let w : ValidModel 2 flag ps first = subst (λ (g : ℕ). ValidModel g flag ps first) t v in
      let d : ltb slot 4 ≡ false = subst (λ (g : ℕ). carries g slot ≡ false) t c in
      rw (eq-eqb gm_type 2 t)
      (pair-prior (slot_of ps first 2) (slot_of ps first 3) (codable-prior 2 flag 2 (slot_of ps first 2) (w.carried 2 (lit< tt) refl))
      (codable-prior 2 flag 3 (slot_of ps first 3) (w.carried 3 (lit< tt) refl)) slot (ltb-false slot 4 d) l))
      (λ (n : gm_type ≡ 2 → ⊥). rw (ne_eqb gm_type 2 n) (centre-prior slot))
      (eq-or-ne gm_type 2)

  -- ---- a model

  pub model-prior : ValidPrior ps first
  model-prior =
      record {
        within = λ slot l.
            ⊎_elim
            (λ (c : carries gm_type slot ≡ true). codable-prior gm_type flag slot (slot_of ps first slot) (v.carried slot l c))
            (λ (c : carries gm_type slot ≡ false). rw (v.filled slot l c) (filled-prior slot l c))
            (outcome (carries gm_type slot));
      }

  -- for each other type under each flag
  pub model-place : (other other_flag slot : ℕ) → slot < 6 → PriorFor other other_flag slot (slot_of ps first slot)
  model-place other other_flag slot l = prior-for other other_flag slot (slot_of ps first slot) (model-prior.within slot l)

-- ---- the models of a header

pub models-prior : (types : List ℕ) (flag : ℕ) (ps : List ℤ) → length ps ≡ 6 * length types → types_over types ≡ false → models_wrong types flag ps ≡ false
    → priors_out ps ≡ false
unfolding priors_out
models-prior types flag ps long known right = none-holds (prior_at ps) (length ps) at
  where
    at : (i : ℕ) → i < length ps → prior_at ps i ≡ false
    at i l =
        let r : ℕ = i / 6 in
        let e : 6 * r + i % 6 ≡ i = omega arith in
        let v : ValidModel (get_or types r 0) flag ps (6 * r) = valid-model types flag ps r (omega arith) known right in
        rw e at ((model-prior (get_or types r 0) flag ps (6 * r) v).within (i % 6) (omega arith))
