-- What is read of a type's slots so far, and what is left to read, are all that is to be read: the loop's invariant and its steps.
-- Assumes nothing.
use Prim.Native.Nat.{ℕ, zero, suc, ◌+◌, ◌*◌, ◌≤◌, ◌<◌}
use mathlib.Core.List.{List, [], ◌∷◌, ◌++◌, append-nil, append_assoc}
use mathlib.Core.Logic.{⊎_elim}
use mathlib.Core.Path.{◌≡◌, refl, sym, subst, ◌∙◌}
use native.Mathlib.Nat.{add_assoc}
use native.Mathlib.Numerals.{add-one}
use native.Mathlib.Omega.{arith}
use lib.Dec.{lit≤}
use lib.IntN.{ℤ, pos, nat_abs}
use lib.ListN.{length, take, drop, set, replicate, length-set, drop_of_length-le}
use lib.Seq.{take-suc-set, get_or-set_same, get_or-set_other}
use Rattle.laws.proofs.Cases.{eq-or-ne}
use Rattle.header.specs.Coefficient.{coefficient}
use Rattle.header.specs.Reading.{slots_read}
use Rattle.header.specs.Writing.{slot_of}
use Rattle.header_read.specs.Inner.{AllSmall, ParamIs, NumbersAre}
use Rattle.header_read.specs.declared.Numbers.{Numbers}
use Rattle.header_read.specs.declared.Param.{Param}

small-zeros : (n : ℕ) → AllSmall (replicate n (pos 0))
small-zeros zero i = lit≤ tt
small-zeros (suc n) zero = lit≤ tt
small-zeros (suc n) (suc i) = small-zeros n i

small-set : (l : List ℤ) (i : ℕ) (z : ℤ) → i < length l → AllSmall l → nat_abs z ≤ 4259840 → AllSmall (set l i z)
small-set l i z h s k j =
    ⊎_elim
    (λ (e : j ≡ i). rw (e, get_or-set_same l i z (pos 0) h) k)
    (λ (n : j ≡ i → ⊥). rw (get_or-set_other l i j z (pos 0) n) (s j))
    (eq-or-ne j i)

module _ (g : ℕ → ℕ) (flag : ℕ) (qs : List ℤ) (gm_type first : ℕ) (ss : List ℕ) (at : ℕ) where
  -- i slots are read into `values`, up to position j
  pub record SoFar (values : List ℤ) (j i : ℕ) : Type 0 where
    pub numbers : take i values ++ (slots_read g flag qs gm_type first (drop i ss) j).values ≡ (slots_read g flag qs gm_type first ss at).values
    pub bits : j + (slots_read g flag qs gm_type first (drop i ss) j).bits ≡ at + (slots_read g flag qs gm_type first ss at).bits
    pub long : length values ≡ 6
    pub small : AllSmall values
    pub near : j ≤ at + 23 * i
    pub few : i ≤ length ss

  pub none_yet : SoFar (replicate 6 (pos 0)) at 0
  none_yet = record { numbers = refl; bits = refl; long = refl; small = small-zeros 6; near = omega arith; few = omega arith }

  -- the slot s more
  pub one_more : (values : List ℤ) (j i s : ℕ) (p : Param) → i < 6 → drop i ss ≡ s ∷ drop (i + 1) ss → i + 1 ≤ length ss → SoFar values j i
      → ParamIs p (coefficient g j gm_type flag s (slot_of qs first s)) j
      → SoFar (set values i p.value) p.next.at (i + 1)
  one_more values j i s p h e l f is =
      let n : ℕ = (coefficient g j gm_type flag s (slot_of qs first s)).bits in
      let here : take (i + 1) (set values i p.value) ≡ take i values ++ (p.value ∷ []) = rw (add-one i) (take-suc-set values i p.value (omega (arith, f.long))) in
      record {
        numbers =
            rw (here, append_assoc (take i values) (p.value ∷ []) (slots_read g flag qs gm_type first (drop (i + 1) ss) p.next.at).values, is.next, is.value)
            (rw e at f.numbers);
        bits = rw (is.next, add_assoc j n (slots_read g flag qs gm_type first (drop (i + 1) ss) (j + n)).bits) (rw e at f.bits);
        long = length-set values i p.value ∙ f.long;
        small = small-set values i p.value (omega (arith, f.long)) f.small is.small;
        near = omega (arith, f.near, is.near);
        few = l;
      }

  pub all_read : (values : List ℤ) (j i : ℕ) (r : Numbers) → length ss ≤ 6 → length ss ≤ i → SoFar values j i → r.values ≡ values → r.next.at ≡ j
      → NumbersAre r (slots_read g flag qs gm_type first ss at) at (length ss)
  all_read values j i r six h f ev en =
      let e : i ≡ length ss = omega (arith, f.few) in
      let none : drop i ss ≡ [] = drop_of_length-le ss h in
      record {
        values = rw (ev, ← e) (sym (append-nil (take i values)) ∙ rw none at f.numbers);
        long = rw ev f.long;
        small = subst AllSmall (sym ev) f.small;
        next = let b = rw none at f.bits in omega (arith, b, en);
        near = omega (arith, en, f.near);
      }
