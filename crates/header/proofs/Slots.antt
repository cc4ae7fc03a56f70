-- What is left of a type's slots, from the i-th on: the i-th slot, then the rest.
-- Assumes nothing.
use Prim.Native.Nat.{ℕ, zero, suc, ◌+◌, ◌<◌}
use mathlib.Core.Bool.{Bool, true, false}
use mathlib.Core.List.{List, [], ◌∷◌}
use mathlib.Core.Path.{◌≡◌, refl}
use native.Mathlib.Numerals.{add-one}
use native.Mathlib.Omega.{arith}
use lib.Dec.{ltb, eqb}
use lib.ListN.{length, get_or, drop}
use lib.Seq.{drop-cons}
use Rattle.laws.specs.Refusal.{choose}
use Rattle.grid.specs.Slots.{slots_of}
use Rattle.grid.proofs.Slots.{slots-known, known_at}
use Rattle.models.specs.Models.{carries}
use Rattle.header.specs.Inner.{Carried}

-- a test that holds of each of a list
abbrev Each : (ℕ → Bool) → List ℕ → Type 0
Each f [] = Unit {0}
Each f (s ∷ ss) = (f s ≡ true) × Each f ss

each_at : (f : ℕ → Bool) (ss : List ℕ) (i : ℕ) → i < length ss → Each f ss → f (get_or ss i 0) ≡ true
each_at f [] i h e = absurd (omega arith)
each_at f (s ∷ ss) zero h e = e.0
each_at f (s ∷ ss) (suc i) h e = each_at f ss i (omega arith) e.1

by_tests : (i t r : Bool) → Each (λ s. choose i false (choose t (ltb s 2) (choose r (ltb s 4) true)))
    (choose i [] (choose t (0 ∷ 1 ∷ []) (choose r (2 ∷ 3 ∷ 0 ∷ 1 ∷ []) (2 ∷ 3 ∷ 4 ∷ 5 ∷ 0 ∷ 1 ∷ []))))
by_tests true t r = tt
by_tests false true r = (refl, (refl, tt))
by_tests false false true = (refl, (refl, (refl, (refl, tt))))
by_tests false false false = (refl, (refl, (refl, (refl, (refl, (refl, tt))))))

-- a type carries its slots
slots-carried : (gm_type : ℕ) → Each (carries gm_type) (slots_of gm_type)
slots-carried gm_type = by_tests (eqb gm_type 0) (eqb gm_type 1) (eqb gm_type 2)

module _ (gm_type i : ℕ) (h : i < length (slots_of gm_type)) where
  pub slot-known : get_or (slots_of gm_type) i 0 < 6
  slot-known = known_at (slots_of gm_type) i (slots-known gm_type)

  pub slot-carried : Carried gm_type (get_or (slots_of gm_type) i 0)
  slot-carried = record { known = slot-known; is = each_at (carries gm_type) (slots_of gm_type) i h (slots-carried gm_type) }

  pub slots-left : drop i (slots_of gm_type) ≡ get_or (slots_of gm_type) i 0 ∷ drop (i + 1) (slots_of gm_type)
  slots-left = rw (add-one i) (drop-cons (slots_of gm_type) i 0 h)
