-- The climb, rung by rung, for the code's loops: so many ones were passed, and what is left is the climb from the rung reached.
-- Assumes nothing.
use Prim.Native.Nat.{ℕ, zero, suc, ◌+◌, ◌-◌, ◌*◌, ◌^◌, ◌≤◌, ◌<◌}
use mathlib.Core.Bool.{Bool, true, false}
use mathlib.Core.List.{List, [], ◌∷◌, ◌++◌, append_assoc}
use mathlib.Core.Path.{◌≡◌, refl, ap, sym, ◌∙◌, subst}
use native.Mathlib.Decide.{dec_le}
use native.Mathlib.Nat.{le_refl, pow-suc}
use native.Mathlib.Numerals.{add-one}
use native.Mathlib.Omega.{arith}
use borrow.Author.Tests.{leb-true, leb-false, le-leb, lt-leb}
use lib.ListN.{replicate}
use lib.Pow.{pow_pos, high}
use Rattle.laws.specs.Refusal.{choose}
use Rattle.bits.specs.Fields.{field, field_bits}
use Rattle.bits.specs.Ns.{Taken, ns, ns_bits}
use Rattle.bits.proofs.Fields.{field_bits-low}
use Rattle.bits.proofs.Words.{field-behind}
use Rattle.bits.specs.declared.BitCursor.{BitCursor}
use Rattle.subexp.specs.declared.RungRead.{RungRead}
use Rattle.subexp.specs.Inner.{Rung, rung_code, last_bits, stop_bits, behind, ClimbIs, rung_bits, rung_start, rung_step, reach, last_rung, climbs}
use Rattle.subexp.specs.Ladder.{climb, climb_bits, counted, subexp, subexp_bits}
use Rattle.subexp.proofs.Ladder.{bits-last, bits-stop, bits-more, climb-last, climb-more, climb-stop}
use Rattle.subexp.proofs.Rungs.{next_start, step-pos, le-start, few-rungs}

-- ones, as a field
pub ones : (i : ℕ) → field_bits i (2 ^ i - 1) ≡ replicate i 1
ones zero = refl
ones (suc i) =
    let e : 2 ^ suc i - 1 ≡ 1 * 2 ^ i + (2 ^ i - 1) = omega (arith, pow-suc 2 i, pow_pos i) in
    let less : 2 ^ i - 1 < 2 ^ i = omega (arith, pow_pos i) in
    rw (e, high 1 i less, field_bits-low 1 (2 ^ i - 1) i i (le_refl i), ones i)

-- ones and the zero that ends them, as a field
ones-stop : (i : ℕ) → field_bits (i + 1) (2 * 2 ^ i - 2) ≡ replicate i 1 ++ 0 ∷ []
ones-stop i =
    let e : 2 * 2 ^ i - 2 ≡ (2 ^ i - 1) * 2 + 0 = omega (arith, pow_pos i) in
    ap (field_bits (i + 1)) e ∙ field-behind i (2 ^ i - 1) (record { n = 1; value = 0 }) (replicate i 1) (0 ∷ []) (ones i) (record { bits = refl; low = omega arith })

-- what is written of a code, field by field, by what the code has computed of the rung
module _ (v i p m : ℕ) (ep : p ≡ 2 ^ i) (em : m ≡ rung_start i) where
  pub last-fields : (S : ℕ) → field_bits i (p - 1) ++ ns_bits (S - m) (v - m) ≡ last_bits S v i
  last-fields S = rw (ep, em, ones i)

  pub stop-fields : (b : ℕ) → b ≡ rung_bits i → field_bits (i + 1) (2 * p - 2) ++ field_bits b (v - m) ≡ stop_bits v i
  stop-fields b eb = rw (ep, em, eb, ones-stop i) (append_assoc (replicate i 1) (0 ∷ []) (field_bits (rung_bits i) (v - rung_start i)))

one_more : (i : ℕ) (xs : List ℕ) → replicate i 1 ++ 1 ∷ xs ≡ replicate (i + 1) 1 ++ xs
one_more zero xs = refl
one_more (suc i) xs =
    let e : suc i + 1 ≡ suc (i + 1) = omega arith in
    rw e (ap (λ (l : List ℕ). 1 ∷ l) (one_more i xs))

goes_on : (S v i : ℕ) → climbs S v i ≡ true → (reach i < S) × (rung_start i + rung_step i ≤ v)
goes_on S v i e =
    elim (dec_le S (reach i)) [
      | yes l ↦ absurd (falsity (rw (le-leb S (reach i) l) at e))
      | no n ↦
          let less : reach i < S = omega arith in
          (less, leb-true (rung_start i + rung_step i) v (rw (lt-leb S (reach i) less) at e))
    ]
  where
    falsity : false ≡ true → ⊥
    falsity p = let z : ◌≡◌ {A = ℕ} 0 1 = cc in omega arith

-- the climb has a rung to go
fuel : (S i : ℕ) → rung_start i < S → S - i ≡ suc (S - (i + 1))
fuel S i h = omega (arith, le-start i)

module _ (S v : ℕ) where
  -- what is left, after i ones
  pub record Reached (i : ℕ) : Type 0 where
    pub start : rung_start i ≤ v
    pub below : rung_start i < S
    pub bits : subexp_bits S v ≡ replicate i 1 ++ climb_bits (S - i) S v (rung_start i)

  pub at-the-foot : 0 < S → Reached 0
  unfolding subexp_bits
  at-the-foot pos = record { start = omega arith; below = pos; bits = ap (λ (n : ℕ). climb_bits n S v 0) (let e : S ≡ S - 0 = omega arith in e) }

  pub up : (i : ℕ) → climbs S v i ≡ true → Reached i → Reached (i + 1)
  up i e r =
      let t = goes_on S v i e in
      let s : rung_start (suc i) ≡ rung_start (i + 1) = ap rung_start (sym (add-one i)) in
      let next : rung_start i + rung_step i ≡ rung_start (i + 1) = next_start i ∙ s in
      record {
        start = omega (arith, t.1);
        below = omega (arith, t.0, step-pos i);
        bits =
            r.bits
            ∙ rw (fuel S i r.below, bits-more (S - (i + 1)) S i v t.0 t.1, s)
            (one_more i (climb_bits (S - (i + 1)) S v (rung_start (i + 1))));
      }

  pub there : (i : ℕ) → v < S → S ≤ 65536 → climbs S v i ≡ false → Reached i → Rung S v i
  there i less small e r =
      record {
        on = record { few = few-rungs i (omega (arith, r.below)); start = r.start; less = less; small = small };
        bits = r.bits ∙ ap (λ (l : List ℕ). replicate i 1 ++ l) (rw (fuel S i r.below) code);
      }
    where
      code : climb_bits (suc (S - (i + 1))) S v (rung_start i) ≡ rung_code S v i
      code =
          elim (dec_le S (reach i)) [
            | yes l ↦ bits-last (S - (i + 1)) S i v l ∙ rw (le-leb S (reach i) l)
            | no n ↦
                let less : reach i < S = omega arith in
                let stop : v < rung_start i + rung_step i = leb-false (rung_start i + rung_step i) v (rw (lt-leb S (reach i) less) at e) in
                bits-stop (S - (i + 1)) S i v less stop ∙ rw (lt-leb S (reach i) less)
          ]

-- the code on a rung, by what the code has computed of the rung
module _ (S v i m : ℕ) (em : m ≡ rung_start i) where
  pub last_code : last_rung S i ≡ true → rung_code S v i ≡ ns_bits (S - m) (v - m)
  last_code e = rw (e, em)

  pub stop-code : (b : ℕ) → b ≡ rung_bits i → last_rung S i ≡ false → rung_code S v i ≡ 0 ∷ field_bits b (v - m)
  stop-code b eb e = rw (e, em, eb)

-- a number of the first rung, which isn't the last one
pub first_code : (S v : ℕ) → v < 8 → 24 < S → S ≤ 65536 → 0 ∷ field_bits 3 v ≡ subexp_bits S v
first_code S v near more small =
    let e : last_rung S 0 ≡ false = lt-leb S 24 more in
    let stop : climbs S v 0 ≡ false = rw e (lt-leb 8 v near) in
    let r : Rung S v 0 = there S v 0 (omega arith) small stop (at-the-foot S v (omega arith)) in
    ap (λ (x : ℕ). 0 ∷ field_bits 3 x) (let o : v ≡ v - 0 = omega arith in o) ∙ sym (stop-code S v 0 0 refl 3 refl e) ∙ sym r.bits

-- the bits passed and those of what is left
abbrev pub after : ℕ → Taken → Taken
after i t = record { value = t.value; bits = i + t.bits }

module _ (g : ℕ → ℕ) (S j : ℕ) where
  -- what is left to read, after i ones
  pub record Left (i : ℕ) : Type 0 where
    pub below : rung_start i < S
    pub is : subexp g j S ≡ after i (climb g (S - i) S (rung_start i) (j + i))

  pub none_read : 0 < S → Left 0
  unfolding subexp
  none_read pos =
      let s : S ≡ S - 0 = omega arith in
      let e : j ≡ j + 0 = omega arith in
      record { below = pos; is = ap (λ (n : ℕ). climb g n S 0 j) s ∙ ap (λ (k : ℕ). climb g (S - 0) S 0 k) e ∙ plain (climb g (S - 0) S 0 (j + 0)) }
    where
      plain : (t : Taken) → t ≡ after 0 t
      plain t = ap (λ (b : ℕ). record { value = t.value; bits = b }) (let e : t.bits ≡ 0 + t.bits = omega arith in e)

  pub one-read : (i : ℕ) → reach i < S → g (j + i) ≡ 1 → Left i → Left (i + 1)
  one-read i more one l =
      let s : rung_start (suc i) ≡ rung_start (i + 1) = ap rung_start (sym (add-one i)) in
      let next : rung_start i + rung_step i ≡ rung_start (i + 1) = next_start i ∙ s in
      let e : j + i + 1 ≡ j + (i + 1) = omega arith in
      record {
        below = omega (arith, step-pos i);
        is =
            l.is
            ∙ rw (fuel S i l.below, climb-more (S - (i + 1)) S i g (j + i) more one, e, s)
            (passed (climb g (S - (i + 1)) S (rung_start (i + 1)) (j + (i + 1))));
      }
    where
      passed : (t : Taken) → after i (counted t) ≡ after (i + 1) t
      passed t = ap (λ (b : ℕ). record { value = t.value; bits = b }) (let e : i + suc t.bits ≡ i + 1 + t.bits = omega arith in e)

  pub zero-read : (i : ℕ) → reach i < S → (g (j + i) ≡ 1 → ⊥) → Left i
      → subexp g j S ≡ record { value = rung_start i + field g (j + i + 1) (rung_bits i); bits = i + suc (rung_bits i) }
  zero-read i more other l = l.is ∙ rw (fuel S i l.below, climb-stop (S - (i + 1)) S i g (j + i) more other)

  pub last-read : (i : ℕ) → S ≤ reach i → Left i
      → subexp g j S ≡ record { value = rung_start i + (ns g (j + i) (S - rung_start i)).value; bits = i + (ns g (j + i) (S - rung_start i)).bits }
  last-read i last l = l.is ∙ rw (fuel S i l.below, climb-last (S - (i + 1)) S i g (j + i) last)

  -- a number of the first rung, which isn't the last one
  pub first_read : 24 < S → field g j 4 < 8 → (field g j 4 ≡ (subexp g j S).value) × (j + 4 ≡ j + (subexp g j S).bits)
  first_read more near =
      let e : field g j 4 ≡ g j * 8 + field g (j + 1) 3 = refl in
      let here : g (j + 0) ≡ g j = ap g (let o : j + 0 ≡ j = omega arith in o) in
      let k : field g (j + 0 + 1) 3 ≡ field g (j + 1) 3 = ap (λ (i : ℕ). field g i 3) (let o : j + 0 + 1 ≡ j + 1 = omega arith in o) in
      let t = zero-read 0 more (λ one. absurd (omega arith)) (none_read (omega arith)) in
      (omega (arith, ap (λ (x : Taken). x.value) t), omega (arith, ap (λ (x : Taken). x.bits) t))

  -- so many ones were read
  pub ones-read : (i : ℕ) → 0 < S → ((k : ℕ) → k < i → last_rung S k ≡ false) → ((k : ℕ) → k < i → g (j + k) ≡ 1) → Left i
  ones-read zero pos more one = none_read pos
  ones-read (suc i) pos more one =
      subst Left (add-one i)
      (one-read i (leb-false S (reach i) (more i (omega arith))) (one i (omega arith))
      (ones-read i pos (λ k h. more k (omega arith)) (λ k h. one k (omega arith))))

  module _ (small : S ≤ 65536) (i : ℕ) (k : BitCursor) where
    pub stops : (bit : ℕ) → last_rung S i ≡ false → bit ≡ g (j + i) → bit ≡ 0 → k.at ≡ j + i + 1 → Left i
        → ClimbIs g S j (record { i = i; last = false; next = k })
    stops bit e eb z ek l =
        let more : reach i < S = leb-false S (reach i) e in
        let b : k.at - j + rung_bits i ≡ i + suc (rung_bits i) = omega arith in
        record {
          few = few-rungs i (omega (arith, l.below));
          below = l.below;
          next = ek;
          reads = zero-read i more (λ one. absurd (omega arith)) l ∙ rw (b, ek);
        }

    pub ends : last_rung S i ≡ true → k.at ≡ j + i → Left i → ClimbIs g S j (record { i = i; last = true; next = k })
    ends e ek l =
        let last : S ≤ reach i = leb-true S (reach i) e in
        let b : j + i - j ≡ i = omega arith in
        record {
          few = few-rungs i (omega (arith, l.below));
          below = l.below;
          next = omega arith;
          reads = last-read i last l ∙ rw (ek, b);
        }

module _ (g : ℕ → ℕ) (S j : ℕ) (r : RungRead) (c : ClimbIs g S j r) where
  pub next_le : r.next.at ≤ j + 14
  next_le = omega (arith, c.next, c.few, at_most r.last)
    where
      at_most : (b : Bool) → choose b 0 1 ≤ 1
      at_most true = omega arith
      at_most false = omega arith

  module _ (m v k : ℕ) (em : m ≡ rung_start r.i) where
    pub last-is : r.last ≡ true → v ≡ (ns g r.next.at (S - m)).value → k ≡ r.next.at + (ns g r.next.at (S - m)).bits
        → (m + v ≡ (subexp g j S).value) × (k ≡ j + (subexp g j S).bits)
    last-is e ev ek =
        let t : subexp g j S ≡ behind j r.i r.next.at (ns g r.next.at (S - rung_start r.i)) = rw e at c.reads in
        let t' : subexp g j S ≡ behind j r.i r.next.at (ns g r.next.at (S - m)) =
        t ∙ ap (λ (x : ℕ). behind j r.i r.next.at (ns g r.next.at (S - x))) (sym em) in
        (omega (arith, ap (λ (x : Taken). x.value) t'), omega (arith, ap (λ (x : Taken). x.bits) t', c.next))

    pub stop_is : (b : ℕ) → b ≡ rung_bits r.i → r.last ≡ false → v ≡ field g r.next.at b → k ≡ r.next.at + b
        → (m + v ≡ (subexp g j S).value) × (k ≡ j + (subexp g j S).bits)
    stop_is b eb e ev ek =
        let t : subexp g j S ≡ behind j r.i r.next.at (record { value = field g r.next.at (rung_bits r.i); bits = rung_bits r.i }) = rw e at c.reads in
        let f : field g r.next.at b ≡ field g r.next.at (rung_bits r.i) = ap (field g r.next.at) eb in
        (omega (arith, ap (λ (x : Taken). x.value) t), omega (arith, ap (λ (x : Taken). x.bits) t, c.next))
