-- What was read, written again, gives the bits that were read, all of them and no more: a coefficient, a model, a reference, a header.
-- Assumes nothing.
use Prim.Native.Nat.{ℕ, zero, suc, ◌+◌, ◌*◌, ◌≤◌, ◌<◌}
use mathlib.Core.List.{List, [], ◌∷◌, ◌++◌}
use mathlib.Core.Logic.{⊎_elim}
use mathlib.Core.Path.{◌≡◌, refl, ap, sym, subst, ◌∙◌}
use native.Mathlib.Omega.{arith}
use borrow.Author.Tests.{eq-eqb, ne_eqb}
use lib.Dec.{lit<, lit≤}
use lib.IntN.{ℤ, pos}
use lib.ListN.{length, get_or, take, drop, length-append}
use lib.Seq.{get_or-drop, get_or-take, take_all, take_at, drop_at, take-add, drop-drop, length-take-le, drop-cons}
use Rattle.laws.proofs.Cases.{eq-or-ne}
use Rattle.bits.specs.Bits.{bit_at}
use Rattle.bits.proofs.Held.{Holds}
use Rattle.bits.proofs.Buffer.{bit_at_lt, holds-join}
use Rattle.grid.specs.Slots.{slots_of}
use Rattle.grid.proofs.Slots.{Known, slots-known}
use Rattle.header.specs.Coefficient.{coefficient, coefficient_bits}
use Rattle.header.specs.Reading.{ReadModel, type_read, type_length, six_filled, slots_read, model_read, reference_read, references_read, models_read}
use Rattle.header.specs.Inner.{ValidPrior}
use Rattle.header.specs.Writing.{slot_of, type_bits, slots_bits, model_bits, reference_bits, references_bits, header_bits}
use Rattle.header.proofs.Reference.{numbers_of, type-count}
use Rattle.header_read.proofs.Coefficient.{coefficient-again, coefficient-all}
use Rattle.header_read.proofs.References.{reference-six}

-- the bits bs stand at position j, and they are n
pub record Again (g : ℕ → ℕ) (j : ℕ) (bs : List ℕ) (n : ℕ) : Type 0 where
  pub holds : Holds g j bs
  pub count : length bs ≡ n

again-both : (g : ℕ → ℕ) (j : ℕ) (xs ys : List ℕ) (n m : ℕ) → Again g j xs n → Again g (j + n) ys m → Again g j (xs ++ ys) (n + m)
again-both g j xs ys n m a b =
    record {
      holds = holds-join g j xs ys a.holds (rw a.count b.holds);
      count = omega (arith, length-append xs ys, a.count, b.count);
    }

-- the six numbers from `first` on, one by one
pub slot_read : (ps six : List ℤ) (first : ℕ) → take 6 (drop first ps) ≡ six → (slot : ℕ) → slot < 6 → slot_of ps first slot ≡ get_or six slot (pos 0)
slot_read ps six first e slot l =
    sym (get_or-drop first ps slot (pos 0)) ∙ sym (get_or-take 6 (drop first ps) slot (pos 0) l) ∙ ap (λ (s : List ℤ). get_or s slot (pos 0)) e

module _ (g : ℕ → ℕ) (bits : (i : ℕ) → g i < 2) (flag : ℕ) (qs : List ℤ) where
  -- ---- the type bits

  bit-one : (i : ℕ) → (g i ≡ 0 → ⊥) → g i ≡ 1
  bit-one i n = omega (arith, bits i)

  bit-none : (i : ℕ) → (g i ≡ 1 → ⊥) → g i ≡ 0
  bit-none i n = omega (arith, bits i)

  pub record TypeAgain (j : ℕ) : Type 0 where
    pub known : type_read g j ≤ 3
    pub holds : Holds g j (type_bits (type_read g j))

  pub type-again : (j : ℕ) → TypeAgain j
  type-again j =
      ⊎_elim
      (λ (a : g j ≡ 0). record { known = rw (eq-eqb (g j) 0 a) (lit≤ tt); holds = rw (eq-eqb (g j) 0 a) (a, tt) })
      (λ (a : g j ≡ 0 → ⊥).
      ⊎_elim
      (λ (b : g (j + 1) ≡ 1).
      record {
        known = rw (ne_eqb (g j) 0 a, eq-eqb (g (j + 1)) 1 b) (lit≤ tt);
        holds = rw (ne_eqb (g j) 0 a, eq-eqb (g (j + 1)) 1 b) (bit-one j a, (b, tt));
      })
      (λ (b : g (j + 1) ≡ 1 → ⊥).
      let e : j + 1 + 1 ≡ j + 2 = omega arith in
      ⊎_elim
      (λ (d : g (j + 2) ≡ 1).
      record {
        known = rw (ne_eqb (g j) 0 a, ne_eqb (g (j + 1)) 1 b, eq-eqb (g (j + 2)) 1 d) (lit≤ tt);
        holds = rw (ne_eqb (g j) 0 a, ne_eqb (g (j + 1)) 1 b, eq-eqb (g (j + 2)) 1 d) (bit-one j a, (bit-none (j + 1) b, (rw e d, tt)));
      })
      (λ (d : g (j + 2) ≡ 1 → ⊥).
      record {
        known = rw (ne_eqb (g j) 0 a, ne_eqb (g (j + 1)) 1 b, ne_eqb (g (j + 2)) 1 d) (lit≤ tt);
        holds = rw (ne_eqb (g j) 0 a, ne_eqb (g (j + 1)) 1 b, ne_eqb (g (j + 2)) 1 d) (bit-one j a, (bit-none (j + 1) b, (rw e (bit-none (j + 2) d), tt)));
      })
      (eq-or-ne (g (j + 2)) 1))
      (eq-or-ne (g (j + 1)) 1))
      (eq-or-ne (g j) 0)

  -- ---- a reference, whose six numbers stand in ps

  module _ (ps : List ℤ) (first : ℕ) (priors : ValidPrior qs first) where
    slot-again : (gm_type slot j : ℕ) → slot < 6 → slot_of ps first slot ≡ (coefficient g j gm_type flag slot (slot_of qs first slot)).value
        → Again g j (coefficient_bits gm_type flag slot (slot_of ps first slot) (slot_of qs first slot)) (coefficient g j gm_type flag slot (slot_of qs first slot)).bits
    slot-again gm_type slot j l e =
        rw e
        (record {
          holds = coefficient-again g bits j gm_type flag slot (slot_of qs first slot) (priors.within slot l);
          count = coefficient-all g bits j gm_type flag slot (slot_of qs first slot) (priors.within slot l);
        })

    -- the numbers read are those of ps
    slots-again : (gm_type : ℕ) (ss : List ℕ) (j : ℕ) → Known ss → (slots_read g flag qs gm_type first ss j).values ≡ numbers_of ps first ss
        → Again g j (slots_bits flag ps qs gm_type first ss) (slots_read g flag qs gm_type first ss j).bits
    slots-again gm_type [] j k e = record { holds = tt; count = refl }
    slots-again gm_type (s ∷ ss) j k e =
        let n : ℕ = (coefficient g j gm_type flag s (slot_of qs first s)).bits in
        again-both g j _ _ n _
        (slot-again gm_type s j k.0 (ap (λ (l : List ℤ). get_or l 0 (pos 0)) (sym e)))
        (slots-again gm_type ss (j + n) k.1 (ap (λ (l : List ℤ). drop 1 l) e))

    -- the six numbers of ps are those of the model read
    abbrev pub Reads : ReadModel → Type 0
    Reads m = (slot : ℕ) → slot < 6 → slot_of ps first slot ≡ get_or m.six slot (pos 0)

    pub numbers-read : (gm_type j : ℕ) → gm_type ≤ 3 → Reads (model_read g flag qs gm_type first j) → (slots_read g flag qs gm_type first (slots_of gm_type) j).values ≡ numbers_of ps first (slots_of gm_type)
    unfolding model_read six_filled
    numbers-read zero j l e = refl
    numbers-read (suc zero) j l e = rw (e 0 (lit< tt), e 1 (lit< tt))
    numbers-read (suc (suc zero)) j l e = rw (e 2 (lit< tt), e 3 (lit< tt), e 0 (lit< tt), e 1 (lit< tt))
    numbers-read (suc (suc (suc zero))) j l e = rw (e 2 (lit< tt), e 3 (lit< tt), e 4 (lit< tt), e 5 (lit< tt), e 0 (lit< tt), e 1 (lit< tt))
    numbers-read (suc (suc (suc (suc n)))) j l e = absurd (omega arith)

    model-again : (gm_type j : ℕ) → gm_type ≤ 3 → Reads (model_read g flag qs gm_type first j) → Again g j (model_bits flag ps qs gm_type first) (model_read g flag qs gm_type first j).bits
    unfolding model_bits model_read
    model-again gm_type j l e = slots-again gm_type (slots_of gm_type) j (slots-known gm_type) (numbers-read gm_type j l e)

    pub reference-again : (j : ℕ) → take 6 (drop first ps) ≡ (reference_read g flag qs first j).six
        → Again g j (reference_bits flag ps qs (type_read g j) first) (reference_read g flag qs first j).bits
    unfolding reference_read reference_bits
    reference-again j e =
        let gm_type : ℕ = type_read g j in
        let n : ℕ = type_length gm_type in
        again-both g j (type_bits gm_type) _ n _
        (record { holds = (type-again j).holds; count = type-count gm_type (type-again j).known })
        (model-again gm_type (j + n) (type-again j).known (slot_read ps _ first e))

  -- ---- the references, from r on

  pub types_long : (n r j : ℕ) → length (references_read g flag qs n r j).types ≡ n
  types_long zero r j = refl
  types_long (suc n) r j = ap suc (types_long n (r + 1) (j + (reference_read g flag qs (6 * r) j).bits))

  pub params-long : (n r j : ℕ) → length (references_read g flag qs n r j).params ≡ 6 * n
  params-long zero r j = refl
  params-long (suc n) r j =
      let m : ReadModel = reference_read g flag qs (6 * r) j in
      omega (
        arith,
        length-append m.six (references_read g flag qs n (r + 1) (j + m.bits)).params,
        reference-six g flag qs (6 * r) j,
        params-long n (r + 1) (j + m.bits),
      )

  -- what is read stands in `types` and `ps` from reference r on
  pub record Stands (types : List ℕ) (ps : List ℤ) (n r j : ℕ) : Type 0 where
    pub seven : length types ≡ 7
    pub long : length ps ≡ 42
    pub within : r + n ≤ 7
    pub kinds : take n (drop r types) ≡ (references_read g flag qs n r j).types
    pub numbers : take (6 * n) (drop (6 * r) ps) ≡ (references_read g flag qs n r j).params

  module _ (types : List ℕ) (ps : List ℤ) (n r j : ℕ) (s : Stands types ps (suc n) r j) where
    one_more : take (suc n) (drop r types) ≡ get_or types r 0 ∷ take n (drop (suc r) types)
    one_more = rw (drop-cons types r 0 (omega (arith, s.seven, s.within)))

    pub stands-type : get_or types r 0 ≡ (reference_read g flag qs (6 * r) j).gm_type
    stands-type = ap (λ (l : List ℕ). get_or l 0 0) (sym one_more ∙ s.kinds)

    later-types : take n (drop (suc r) types) ≡ (references_read g flag qs n (r + 1) (j + (reference_read g flag qs (6 * r) j).bits)).types
    later-types = ap (λ (l : List ℕ). drop 1 l) (sym one_more ∙ s.kinds)

    six-more : take (6 * suc n) (drop (6 * r) ps) ≡ take 6 (drop (6 * r) ps) ++ take (6 * n) (drop (6 * r + 6) ps)
    six-more =
        let e : 6 * suc n ≡ 6 + 6 * n = omega arith in
        rw (e, take-add 6 (6 * n) (drop (6 * r) ps), drop-drop 6 (6 * r) ps)

    six-long : length (take 6 (drop (6 * r) ps)) ≡ 6
    six-long = length-take-le 6 (drop (6 * r) ps) (rw (lib.ListN.length-drop (6 * r) ps) (omega (arith, s.long, s.within)))

    whole : take 6 (drop (6 * r) ps) ++ take (6 * n) (drop (6 * r + 6) ps)
        ≡ (reference_read g flag qs (6 * r) j).six ++ (references_read g flag qs n (r + 1) (j + (reference_read g flag qs (6 * r) j).bits)).params
    whole = sym six-more ∙ s.numbers

    pub stands-six : take 6 (drop (6 * r) ps) ≡ (reference_read g flag qs (6 * r) j).six
    stands-six =
        sym (take_at (take 6 (drop (6 * r) ps)) (take (6 * n) (drop (6 * r + 6) ps)) 6 six-long)
        ∙ ap (take 6) whole
        ∙ take_at (reference_read g flag qs (6 * r) j).six (references_read g flag qs n (r + 1) (j + (reference_read g flag qs (6 * r) j).bits)).params 6 (reference-six g flag qs (6 * r) j)

    later-params : take (6 * n) (drop (6 * r + 6) ps) ≡ (references_read g flag qs n (r + 1) (j + (reference_read g flag qs (6 * r) j).bits)).params
    later-params =
        sym (drop_at (take 6 (drop (6 * r) ps)) (take (6 * n) (drop (6 * r + 6) ps)) 6 six-long)
        ∙ ap (drop 6) whole
        ∙ drop_at (reference_read g flag qs (6 * r) j).six (references_read g flag qs n (r + 1) (j + (reference_read g flag qs (6 * r) j).bits)).params 6 (reference-six g flag qs (6 * r) j)

    pub stands-later : Stands types ps n (r + 1) (j + (reference_read g flag qs (6 * r) j).bits)
    stands-later =
        let e : 6 * (r + 1) ≡ 6 * r + 6 = omega arith in
        let f : r + 1 ≡ suc r = omega arith in
        record {
          seven = s.seven;
          long = s.long;
          within = omega (arith, s.within);
          kinds = subst (λ (k : ℕ). take n (drop k types) ≡ (references_read g flag qs n (r + 1) (j + (reference_read g flag qs (6 * r) j).bits)).types) (sym f) later-types;
          numbers = subst (λ (k : ℕ). take (6 * n) (drop k ps) ≡ (references_read g flag qs n (r + 1) (j + (reference_read g flag qs (6 * r) j).bits)).params) (sym e) later-params;
        }

  -- the type of a reference read
  pub gm-type : (first j : ℕ) → (reference_read g flag qs first j).gm_type ≡ type_read g j
  unfolding reference_read
  gm-type first j = refl

  module _ (priors : (r : ℕ) → r < 7 → ValidPrior qs (6 * r)) where
    pub references-again : (types : List ℕ) (ps : List ℤ) (n r j : ℕ) → Stands types ps n r j → Again g j (references_bits flag ps qs types n r) (references_read g flag qs n r j).bits
    references-again types ps zero r j s = record { holds = tt; count = refl }
    references-again types ps (suc n) r j s =
        let m : ReadModel = reference_read g flag qs (6 * r) j in
        let t : get_or types r 0 ≡ type_read g j = stands-type types ps n r j s ∙ gm-type (6 * r) j in
        again-both g j (reference_bits flag ps qs (get_or types r 0) (6 * r)) (references_bits flag ps qs types n (r + 1)) m.bits _
        (rw t (reference-again ps (6 * r) (priors r (omega (arith, s.within))) j (stands-six types ps n r j s)))
        (references-again types ps n (r + 1) (j + m.bits) (stands-later types ps n r j s))

-- ---- the header

module _ (header : List ℕ) (at flag : ℕ) (qs : List ℤ) where
  pub seven-types : length (models_read header at flag qs).types ≡ 7
  unfolding models_read
  seven-types = types_long (bit_at header) (bit_at_lt header) flag qs 7 0 at

  pub params-42 : length (models_read header at flag qs).params ≡ 42
  unfolding models_read
  params-42 = params-long (bit_at header) (bit_at_lt header) flag qs 7 0 at

  pub stands : Stands (bit_at header) (bit_at_lt header) flag qs (models_read header at flag qs).types (models_read header at flag qs).params 7 0 at
  unfolding models_read
  stands =
      record {
        seven = seven-types;
        long = params-42;
        within = lit≤ tt;
        kinds = take_all 7 (models_read header at flag qs).types (omega (arith, seven-types));
        numbers = take_all 42 (models_read header at flag qs).params (omega (arith, params-42));
      }

  -- the bits of what was read are those that were read
  pub rewritten : ((r : ℕ) → r < 7 → ValidPrior qs (6 * r))
      → Again (bit_at header) at (header_bits (models_read header at flag qs).types (models_read header at flag qs).params flag qs) (models_read header at flag qs).bits
  unfolding models_read header_bits
  rewritten priors =
      references-again (bit_at header) (bit_at_lt header) flag qs priors (models_read header at flag qs).types (models_read header at flag qs).params 7 0 at stands
