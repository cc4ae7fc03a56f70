-- The ladder: what was written is read back and takes its bits, what is read is a symbol whose bits are those that were read.
-- Assumes nothing.
use Prim.Native.Nat.{ℕ, zero, suc, ◌+◌, ◌-◌, ◌≤◌, ◌<◌}
use mathlib.Core.List.{◌∷◌}
use mathlib.Core.Path.{◌≡◌, ap, sym, subst, ◌∙◌}
use native.Mathlib.Decide.{dec_lt, dec_le, ℕ_discrete}
use native.Mathlib.Omega.{arith}
use borrow.Author.Tests.{lt-ltb, le-ltb, le-leb, lt-leb, eq-eqb, ne_eqb}
use lib.Dec.{lit<}
use lib.ListN.{length}
use Rattle.bits.proofs.Held.{Holds, AreBits}
use Rattle.bits.specs.Fields.{field, field_bits}
use Rattle.bits.specs.Ns.{Taken, ns, ns_bits}
use Rattle.bits.proofs.Fields.{length-field_bits, field_bits-are-bits, field-read, field_lt, field-again}
use Rattle.bits.proofs.Ns.{ns-read, ns-lt, ns-again, ns-again-length, ns_bits-are-bits}
use Rattle.subexp.specs.Ladder.{raised, counted, climb, climb_bits}
use Rattle.subexp.specs.Inner.{rung_bits, rung_start, rung_step, reach}
use Rattle.subexp.proofs.Rungs.{step_is, width_is, next_start, step-pos}

module _ (n S i : ℕ) where
  module _ (v : ℕ) where
    pub bits-last : S ≤ reach i → climb_bits (suc n) S v (rung_start i) ≡ ns_bits (S - rung_start i) (v - rung_start i)
    bits-last h = rw (step_is i, le-leb S (reach i) h)

    pub bits-stop : reach i < S → v < rung_start i + rung_step i → climb_bits (suc n) S v (rung_start i) ≡ 0 ∷ field_bits (rung_bits i) (v - rung_start i)
    bits-stop h l = rw (step_is i, lt-leb S (reach i) h, lt-ltb v (rung_start i + rung_step i) l, width_is (rung_bits i))

    pub bits-more : reach i < S → rung_start i + rung_step i ≤ v → climb_bits (suc n) S v (rung_start i) ≡ 1 ∷ climb_bits n S v (rung_start (suc i))
    bits-more h l = rw (step_is i, lt-leb S (reach i) h, le-ltb v (rung_start i + rung_step i) l, next_start i)

  module _ (g : ℕ → ℕ) (j : ℕ) where
    pub climb-last : S ≤ reach i → climb g (suc n) S (rung_start i) j ≡ raised (rung_start i) (ns g j (S - rung_start i))
    climb-last h = rw (step_is i, le-leb S (reach i) h)

    pub climb-more : reach i < S → g j ≡ 1 → climb g (suc n) S (rung_start i) j ≡ counted (climb g n S (rung_start (suc i)) (j + 1))
    climb-more h e = rw (step_is i, lt-leb S (reach i) h, eq-eqb (g j) 1 e, next_start i)

    pub climb-stop : reach i < S → (g j ≡ 1 → ⊥)
        → climb g (suc n) S (rung_start i) j ≡ record { value = rung_start i + field g (j + 1) (rung_bits i); bits = suc (rung_bits i) }
    climb-stop h e = rw (step_is i, lt-leb S (reach i) h, ne_eqb (g j) 1 e, width_is (rung_bits i))

module _ (g : ℕ → ℕ) (bits : (i : ℕ) → g i < 2) (S : ℕ) where
  pub climb-read : (n i v j : ℕ) → S ≤ n + rung_start i → rung_start i < S → rung_start i ≤ v → v < S
      → Holds g j (climb_bits n S v (rung_start i))
      → climb g n S (rung_start i) j ≡ record { value = v; bits = length (climb_bits n S v (rung_start i)) }
  climb-read zero i v j fuel below from within h = absurd (omega arith)
  climb-read (suc n) i v j fuel below from within h =
      elim (dec_le S (reach i)) [
        | yes last ↦
            let e : climb_bits (suc n) S v (rung_start i) ≡ ns_bits (S - rung_start i) (v - rung_start i) = bits-last n S i v last in
            let r = ns-read g bits j (S - rung_start i) (omega arith) (v - rung_start i) (omega arith) (subst (Holds g j) e h) in
            let back : rung_start i + (v - rung_start i) ≡ v = omega arith in
            climb-last n S i g j last ∙ ap (raised (rung_start i)) r ∙ rw (back, e)
        | no early ↦
            let more : reach i < S = omega arith in
            elim (dec_lt v (rung_start i + rung_step i)) [
              | yes stop ↦
                  let e : climb_bits (suc n) S v (rung_start i) ≡ 0 ∷ field_bits (rung_bits i) (v - rung_start i) = bits-stop n S i v more stop in
                  let h' : Holds g j (0 ∷ field_bits (rung_bits i) (v - rung_start i)) = subst (Holds g j) e h in
                  let f : field g (j + 1) (rung_bits i) ≡ v - rung_start i = field-read g (j + 1) (rung_bits i) (v - rung_start i) (omega arith) h'.1 in
                  let back : rung_start i + (v - rung_start i) ≡ v = omega arith in
                  climb-stop n S i g j more (λ one. absurd (omega (arith, h'.0))) ∙ rw (f, back, e, length-field_bits (rung_bits i) (v - rung_start i))
              | no on ↦
                  let e : climb_bits (suc n) S v (rung_start i) ≡ 1 ∷ climb_bits n S v (rung_start (suc i)) = bits-more n S i v more (omega arith) in
                  let h' : Holds g j (1 ∷ climb_bits n S v (rung_start (suc i))) = subst (Holds g j) e h in
                  let s : rung_start i + rung_step i ≡ rung_start (suc i) = next_start i in
                  let pos : 0 < rung_step i = step-pos i in
                  let r = climb-read n (suc i) v (j + 1) (omega arith) (omega arith) (omega arith) within h'.1 in
                  climb-more n S i g j more h'.0 ∙ ap counted r ∙ rw e
            ]
      ]

  -- what is read from a rung on: a symbol, whose bits are those that were read
  pub record Climbed (n i j v used : ℕ) : Type 0 where
    pub from : rung_start i ≤ v
    pub within : v < S
    pub again : Holds g j (climb_bits n S v (rung_start i))
    pub all : length (climb_bits n S v (rung_start i)) ≡ used

  pub climbed : (n i j : ℕ) → S ≤ n + rung_start i → rung_start i < S
      → Climbed n i j (climb g n S (rung_start i) j).value (climb g n S (rung_start i) j).bits
  climbed zero i j fuel below = absurd (omega arith)
  climbed (suc n) i j fuel below =
      elim (dec_le S (reach i)) [
        | yes last ↦
            let N : ℕ = S - rung_start i in
            let t : Taken = ns g j N in
            let pos : 0 < N = omega arith in
            let less : t.value < N = ns-lt g bits j N pos in
            let back : rung_start i + t.value - rung_start i ≡ t.value = omega arith in
            let e : climb_bits (suc n) S (rung_start i + t.value) (rung_start i) ≡ ns_bits N t.value =
            bits-last n S i (rung_start i + t.value) last ∙ ap (ns_bits N) back in
            subst (λ (x : Taken). Climbed (suc n) i j x.value x.bits) (sym (climb-last n S i g j last))
            (record {
              from = omega arith;
              within = omega arith;
              again = subst (Holds g j) (sym e) (ns-again g bits j N pos);
              all = ap length e ∙ ns-again-length g bits j N pos;
            })
        | no early ↦
            let more : reach i < S = omega arith in
            elim (ℕ_discrete (g j) 1) [
              | yes one ↦
                  let s : rung_start i + rung_step i ≡ rung_start (suc i) = next_start i in
                  let pos : 0 < rung_step i = step-pos i in
                  let r = climbed n (suc i) (j + 1) (omega arith) (omega arith) in
                  let v : ℕ = (climb g n S (rung_start (suc i)) (j + 1)).value in
                  let start : rung_start (suc i) ≤ v = r.from in
                  let e : climb_bits (suc n) S v (rung_start i) ≡ 1 ∷ climb_bits n S v (rung_start (suc i)) = bits-more n S i v more (omega arith) in
                  subst (λ (x : Taken). Climbed (suc n) i j x.value x.bits) (sym (climb-more n S i g j more one))
                  (record {
                    from = omega arith;
                    within = r.within;
                    again = subst (Holds g j) (sym e) (one, r.again);
                    all = ap length e ∙ ap suc r.all;
                  })
              | no other ↦
                  let f : ℕ = field g (j + 1) (rung_bits i) in
                  let less : f < rung_step i = field_lt g bits (j + 1) (rung_bits i) in
                  let back : rung_start i + f - rung_start i ≡ f = omega arith in
                  let e : climb_bits (suc n) S (rung_start i + f) (rung_start i) ≡ 0 ∷ field_bits (rung_bits i) f =
                  bits-stop n S i (rung_start i + f) more (omega arith) ∙ rw back in
                  let zero : g j ≡ 0 = omega (arith, bits j) in
                  subst (λ (x : Taken). Climbed (suc n) i j x.value x.bits) (sym (climb-stop n S i g j more other))
                  (record {
                    from = omega arith;
                    within = omega arith;
                    again = subst (Holds g j) (sym e) (zero, field-again g bits (j + 1) (rung_bits i));
                    all = ap length e ∙ ap suc (length-field_bits (rung_bits i) f);
                  })
            ]
      ]

pub climb_bits-are-bits : (n S v i : ℕ) → AreBits (climb_bits n S v (rung_start i))
climb_bits-are-bits zero S v i = tt
climb_bits-are-bits (suc n) S v i =
    elim (dec_le S (reach i)) [
      | yes last ↦ rw (bits-last n S i v last) (ns_bits-are-bits (S - rung_start i) (v - rung_start i))
      | no early ↦
          let more : reach i < S = omega arith in
          elim (dec_lt v (rung_start i + rung_step i)) [
            | yes stop ↦ rw (bits-stop n S i v more stop) (lit< tt, field_bits-are-bits (rung_bits i) (v - rung_start i))
            | no on ↦
                let from : rung_start i + rung_step i ≤ v = omega arith in
                rw (bits-more n S i v more from) (lit< tt, climb_bits-are-bits n S v (suc i))
          ]
    ]
