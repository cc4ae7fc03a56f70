-- What a function answers, from what its callees answered: a type by its bits, a model from its numbers, a reference.
-- Assumes nothing.
use Prim.Native.Nat.{ℕ, ◌+◌, ◌≤◌, ◌<◌}
use mathlib.Core.List.{List}
use mathlib.Core.Logic.{⊎_elim}
use mathlib.Core.Path.{◌≡◌, refl, ap, sym, subst, ◌∙◌}
use native.Mathlib.Nat.{add_assoc}
use native.Mathlib.Omega.{arith}
use borrow.Author.Tests.{eq-eqb, ne_eqb}
use lib.Dec.{lit<, lit≤}
use lib.IntN.{ℤ, pos}
use lib.ListN.{length, get_or, take}
use lib.Seq.{get_or-take}
use Rattle.laws.proofs.Cases.{eq-or-ne}
use Rattle.grid.specs.Slots.{slots_of}
use Rattle.models.specs.Models.{filler}
use Rattle.header.specs.Reading.{ReadModel, type_read, type_length, six_filled, slots_read, model_read, reference_read}
use Rattle.header_read.specs.Inner.{NumbersAre, TypeIs, ModelIs}
use Rattle.header_read.specs.declared.Numbers.{Numbers}
use Rattle.header_read.specs.declared.TypeRead.{TypeRead}
use Rattle.header_read.specs.declared.Model.{Model}

-- ---- the type bits

module _ (g : ℕ → ℕ) (j : ℕ) (r : TypeRead) where
  typed : (gm_type : ℕ) → type_read g j ≡ gm_type → type_length gm_type ≤ 3 → r.gm_type ≡ gm_type → r.next.at ≡ j + type_length gm_type → TypeIs r g j
  typed gm_type t few e n =
      record {
        is = e ∙ sym t;
        next = n ∙ ap (λ (x : ℕ). j + type_length x) (sym t);
        near = omega (arith, n, few);
      }

  pub identity-typed : g j ≡ 0 → r.gm_type ≡ 0 → r.next.at ≡ j + 1 → TypeIs r g j
  identity-typed a e n = typed 0 (rw (eq-eqb (g j) 0 a)) (lit≤ tt) e n

  pub rotzoom-typed : (g j ≡ 0 → ⊥) → g (j + 1) ≡ 1 → r.gm_type ≡ 2 → r.next.at ≡ j + 2 → TypeIs r g j
  rotzoom-typed a b e n = typed 2 (rw (ne_eqb (g j) 0 a, eq-eqb (g (j + 1)) 1 b)) (lit≤ tt) e n

  pub translation-typed : (g j ≡ 0 → ⊥) → (g (j + 1) ≡ 1 → ⊥) → g (j + 2) ≡ 1 → r.gm_type ≡ 1 → r.next.at ≡ j + 3 → TypeIs r g j
  translation-typed a b d e n = typed 1 (rw (ne_eqb (g j) 0 a, ne_eqb (g (j + 1)) 1 b, eq-eqb (g (j + 2)) 1 d)) (lit≤ tt) e n

  pub affine-typed : (g j ≡ 0 → ⊥) → (g (j + 1) ≡ 1 → ⊥) → (g (j + 2) ≡ 1 → ⊥) → r.gm_type ≡ 3 → r.next.at ≡ j + 3 → TypeIs r g j
  affine-typed a b d e n = typed 3 (rw (ne_eqb (g j) 0 a, ne_eqb (g (j + 1)) 1 b, ne_eqb (g (j + 2)) 1 d)) (lit≤ tt) e n

-- ---- models and references

-- a fact of each type's number, the last for every number above
by-number : (P : ℕ → Type 0) → P 0 → P 1 → P 2 → ((n : ℕ) → (n ≡ 0 → ⊥) → (n ≡ 1 → ⊥) → (n ≡ 2 → ⊥) → P n) → (n : ℕ) → P n
by-number P i t r a n =
    ⊎_elim (λ (e : n ≡ 0). subst P (sym e) i)
    (λ (ni : n ≡ 0 → ⊥). ⊎_elim (λ (e : n ≡ 1). subst P (sym e) t) (λ (nt : n ≡ 1 → ⊥). ⊎_elim (λ (e : n ≡ 2). subst P (sym e) r) (λ (nr : n ≡ 2 → ⊥). a n ni nt nr) (eq-or-ne n 2)) (eq-or-ne n 1))
    (eq-or-ne n 0)

-- the six depend on the type's numbers alone, whatever stands behind them
module _ (array values : List ℤ) where
  front_at : (n : ℕ) → take n array ≡ values → (k : ℕ) → k < n → get_or values k (pos 0) ≡ get_or array k (pos 0)
  front_at n e k h = ap (λ (l : List ℤ). get_or l k (pos 0)) (sym e) ∙ get_or-take n array k (pos 0) h

  pub six-front : (gm_type : ℕ) → take (length (slots_of gm_type)) array ≡ values → six_filled gm_type array ≡ six_filled gm_type values
  unfolding six_filled filler
  six-front =
      by-number (λ n. take (length (slots_of n)) array ≡ values → six_filled n array ≡ six_filled n values)
      (λ e. refl)
      (λ e. let at = front_at 2 e in rw (at 0 (lit< tt), at 1 (lit< tt)))
      (λ e. let at = front_at 4 e in rw (at 0 (lit< tt), at 1 (lit< tt), at 2 (lit< tt), at 3 (lit< tt)))
      (λ n a b d e.
      let e' : take 6 array ≡ values = rw (ne_eqb n 0 a, ne_eqb n 1 b, ne_eqb n 2 d) at e in
      let at = front_at 6 e' in
      rw (ne_eqb n 0 a, ne_eqb n 1 b, ne_eqb n 2 d) (rw (at 0 (lit< tt), at 1 (lit< tt), at 2 (lit< tt), at 3 (lit< tt), at 4 (lit< tt), at 5 (lit< tt)) refl))

module _ (g : ℕ → ℕ) (flag : ℕ) (qs : List ℤ) (first j : ℕ) where
  pub modelled : (gm_type : ℕ) (t : Numbers) (r : Model) → NumbersAre t (slots_read g flag qs gm_type first (slots_of gm_type) j) j (length (slots_of gm_type))
      → r.gm_type ≡ gm_type → r.six ≡ six_filled gm_type t.values → r.next.at ≡ t.next.at
      → ModelIs r (model_read g flag qs gm_type first j) j 138
  unfolding model_read
  modelled gm_type t r pt e s n =
      record {
        gm_type = e;
        six = s ∙ six-front t.values _ gm_type pt.values;
        next = n ∙ pt.next;
        near = omega (arith, n, pt.near);
      }

  pub referenced : (t : TypeRead) (m r : Model) → TypeIs t g j
      → ModelIs m (model_read g flag qs t.gm_type first t.next.at) t.next.at 138
      → r.gm_type ≡ t.gm_type → r.six ≡ m.six → r.next.at ≡ m.next.at
      → ModelIs r (reference_read g flag qs first j) j 141
  unfolding reference_read
  referenced t m r pt pm e s n =
      let n₀ : ℕ = type_length (type_read g j) in
      let model : ReadModel = model_read g flag qs (type_read g j) first (j + n₀) in
      let pm' : ModelIs m model (j + n₀) 138 =
      subst (λ (k : ℕ). ModelIs m (model_read g flag qs (type_read g j) first k) k 138) pt.next
      (subst (λ (k : ℕ). ModelIs m (model_read g flag qs k first t.next.at) t.next.at 138) pt.is pm) in
      record {
        gm_type = e ∙ pt.is;
        six = s ∙ pm'.six;
        next = n ∙ pm'.next ∙ add_assoc j n₀ model.bits;
        near = omega (arith, n, pm'.near, pt.near);
      }
