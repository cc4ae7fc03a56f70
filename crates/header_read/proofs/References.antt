-- What is read of the seven references so far, and what is left to read, are all that is to be read: the loop's invariant and its steps.
-- Assumes nothing.
use Prim.Native.Nat.{ℕ, suc, ◌+◌, ◌*◌, ◌-◌, ◌≤◌, ◌<◌}
use mathlib.Core.List.{List, [], ◌∷◌, ◌++◌, append-nil, append_assoc}
use mathlib.Core.Path.{◌≡◌, refl, ap, sym, subst, ◌∙◌}
use native.Mathlib.Nat.{add_assoc}
use native.Mathlib.Numerals.{add-one}
use native.Mathlib.Omega.{arith}
use lib.Dec.{eqb, lit≤}
use lib.IntN.{ℤ}
use lib.ListN.{length, take, drop, set, length-append, length-set}
use lib.Seq.{take_at, take_all, take-suc-set, length-take-le}
use Rattle.laws.specs.Placed.{placed}
use Rattle.laws.proofs.Placed.{placed-length}
use Rattle.bits.specs.Bits.{bit_at}
use Rattle.grid.proofs.Slots.{chosen}
use Rattle.header.specs.Reading.{ReadModel, six_filled, type_read, type_length, model_read, reference_read, references_read, models_read}
use Rattle.header_read.specs.Inner.{ModelIs, SevenIs}
use Rattle.header_read.specs.declared.Model.{Model}
use Rattle.header_read.specs.declared.Seven.{Seven}

module _ (g : ℕ → ℕ) (flag : ℕ) (qs : List ℤ) where
  -- six numbers, whatever the type
  pub reference-six : (first j : ℕ) → length (reference_read g flag qs first j).six ≡ 6
  unfolding reference_read model_read six_filled
  reference-six first j = refl

  type-some : (gm_type : ℕ) → 1 ≤ type_length gm_type
  type-some gm_type =
      chosen (λ n. 1 ≤ n) (eqb gm_type 0) 1 _ (lit≤ tt) (chosen (λ n. 1 ≤ n) (eqb gm_type 2) 2 3 (lit≤ tt) (lit≤ tt))

  -- a reference takes at least one bit
  pub some_bits : (first j : ℕ) → 1 ≤ (reference_read g flag qs first j).bits
  unfolding reference_read
  some_bits first j = omega (arith, type-some (type_read g j))

  -- r references are read into `types` and `params`, up to position j
  pub record SoFar (at : ℕ) (types : List ℕ) (params : List ℤ) (j r : ℕ) : Type 0 where
    pub few : r ≤ 7
    pub seven : length types ≡ 7
    pub long : length params ≡ 42
    pub kinds : take r types ++ (references_read g flag qs (7 - r) r j).types ≡ (references_read g flag qs 7 0 at).types
    pub numbers : take (6 * r) params ++ (references_read g flag qs (7 - r) r j).params ≡ (references_read g flag qs 7 0 at).params
    pub bits : j + (references_read g flag qs (7 - r) r j).bits ≡ at + (references_read g flag qs 7 0 at).bits
    pub near : j ≤ at + 141 * r

  pub none_yet : (at : ℕ) (types : List ℕ) (params : List ℤ) → length types ≡ 7 → length params ≡ 42 → SoFar at types params at 0
  none_yet at types params e f = record { few = lit≤ tt; seven = e; long = f; kinds = refl; numbers = refl; bits = refl; near = omega arith }

  front : (types : List ℕ) (r x : ℕ) → r < length types → take (r + 1) (set types r x) ≡ take r types ++ (x ∷ [])
  front types r x h = rw (add-one r) (take-suc-set types r x h)

  front-six : (params six : List ℤ) (r : ℕ) → 6 * r + 6 ≤ length params → length six ≡ 6 → take (6 * (r + 1)) (placed (6 * r) six params) ≡ take (6 * r) params ++ six
  front-six params six r h e =
      let front : length (take (6 * r) params) ≡ 6 * r = length-take-le (6 * r) params (omega arith) in
      rw (sym (append_assoc (take (6 * r) params) six (drop (length six) (drop (6 * r) params))))
      (take_at (take (6 * r) params ++ six) (drop (length six) (drop (6 * r) params)) (6 * (r + 1)) (omega (arith, length-append (take (6 * r) params) six)))

  module _ (at : ℕ) (types : List ℕ) (params : List ℤ) (j r : ℕ) (s : SoFar at types params j r) where
    pub one-more-read : r < 7 → (k : ℕ) → k ≡ j + (reference_read g flag qs (6 * r) j).bits → k ≤ j + 141
        → SoFar at (set types r (reference_read g flag qs (6 * r) j).gm_type) (placed (6 * r) (reference_read g flag qs (6 * r) j).six params) k (r + 1)
    one-more-read h k e near =
        let m : ReadModel = reference_read g flag qs (6 * r) j in
        let six : length m.six ≡ 6 = reference-six (6 * r) j in
        let fits : 6 * r + 6 ≤ length params = omega (arith, s.long) in
        let n : 7 - r ≡ suc (7 - (r + 1)) = omega arith in
        record {
          few = omega arith;
          seven = length-set types r m.gm_type ∙ s.seven;
          long = placed-length (6 * r) m.six params (omega arith) ∙ s.long;
          kinds =
              rw (front types r m.gm_type (omega (arith, s.seven)), append_assoc (take r types) (m.gm_type ∷ []) (references_read g flag qs (7 - (r + 1)) (r + 1) k).types, e)
              (rw n at s.kinds);
          numbers =
              rw (front-six params m.six r fits six, append_assoc (take (6 * r) params) m.six (references_read g flag qs (7 - (r + 1)) (r + 1) k).params, e)
              (rw n at s.numbers);
          bits =
              rw (e, add_assoc j (reference_read g flag qs (6 * r) j).bits (references_read g flag qs (7 - (r + 1)) (r + 1) (j + (reference_read g flag qs (6 * r) j).bits)).bits)
              (rw n at s.bits);
          near = omega (arith, s.near);
        }

    pub all_read : 7 ≤ r → (seven : Seven) → seven.types ≡ types → seven.params ≡ params → seven.next.at ≡ j → SevenIs seven (references_read g flag qs 7 0 at) at
    all_read h seven et ep ej =
        let e : r ≡ 7 = omega (arith, s.few) in
        let s' : SoFar at types params j 7 = subst (λ (k : ℕ). SoFar at types params j k) e s in
        record {
          types = et ∙ sym (take_all 7 types (omega (arith, s.seven))) ∙ sym (append-nil (take 7 types)) ∙ s'.kinds;
          params = ep ∙ sym (take_all 42 params (omega (arith, s.long))) ∙ sym (append-nil (take 42 params)) ∙ s'.numbers;
          next = omega (arith, ej, s'.bits);
          near = omega (arith, ej, s'.near);
        }

  -- a reference more, as the loop stores it
  pub next-read : (at : ℕ) (types types' : List ℕ) (params params' : List ℤ) (j k r : ℕ) (m : Model) → r < 7 → SoFar at types params j r
      → ModelIs m (reference_read g flag qs (6 * r) j) j 141 → types' ≡ set types r m.gm_type → params' ≡ placed (6 * r) m.six params → k ≡ m.next.at
      → SoFar at types' params' k (r + 1)
  next-read at types types' params params' j k r m h s is et ep ek =
      let t : ReadModel = reference_read g flag qs (6 * r) j in
      subst (λ (x : List ℕ). SoFar at x params' k (r + 1)) (sym (et ∙ ap (set types r) is.gm_type))
      (subst (λ (y : List ℤ). SoFar at (set types r t.gm_type) y k (r + 1)) (sym (ep ∙ ap (λ (six : List ℤ). placed (6 * r) six params) is.six))
      (one-more-read at types params j r s h k (ek ∙ is.next) (omega (arith, ek, is.near))))

-- a header takes at least one bit
pub models-some : (header : List ℕ) (at flag : ℕ) (qs : List ℤ) → 1 ≤ (models_read header at flag qs).bits
unfolding models_read
models-some header at flag qs = omega (arith, some_bits (bit_at header) flag qs 0 at)
