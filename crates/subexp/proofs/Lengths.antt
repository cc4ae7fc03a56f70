-- A coefficient of abs_bits bits takes at least 4 and at most 2 * abs_bits - 1 bits, for every abs_bits of 3 or more.
-- Assumes nothing.
use Prim.Native.Nat.{ℕ, zero, suc, ◌+◌, ◌-◌, ◌*◌, ◌^◌, ◌≤◌, ◌<◌}
use mathlib.Core.List.{List}
use mathlib.Core.Path.{◌≡◌, ap, sym, subst, ◌∙◌}
use native.Mathlib.Decide.{dec_lt, ℕ_discrete}
use native.Mathlib.Nat.{pow-suc}
use native.Mathlib.Omega.{arith}
use lib.Dec.{lit≤}
use lib.ListN.{length}
use lib.Pow.{pow_mono}
use Rattle.bits.specs.Ns.{bit_length, ns_bits}
use Rattle.bits.proofs.Fields.{length-field_bits}
use Rattle.bits.proofs.Ns.{ns_bits-length}
use Rattle.bits.proofs.BitLength.{bit_length-is}
use Rattle.subexp.specs.Ladder.{climb_bits, subexp_bits}
use Rattle.subexp.specs.Inner.{rung_start, rung_step, reach}
use Rattle.subexp.proofs.Ladder.{bits-last, bits-stop, bits-more}
use Rattle.subexp.proofs.Rungs.{next_start, step-pos}

-- ns(2 ^ abs + 1) takes abs bits, or one more
ns-length : (abs v : ℕ) → 1 ≤ abs → (abs ≤ length (ns_bits (2 ^ abs + 1) v)) × (length (ns_bits (2 ^ abs + 1) v) ≤ abs + 1)
ns-length abs v h =
    let w : bit_length (2 ^ abs + 1) ≡ suc abs =
    bit_length-is (2 ^ abs + 1) (suc abs) (omega arith) (omega (arith, pow-suc 2 abs, pow_mono h)) (omega (arith, pow-suc 2 abs)) in
    let l = ns_bits-length (2 ^ abs + 1) v in
    (omega (arith, l.0), omega (arith, l.1))

-- the rung that starts at 2 ^ e
record Lengths (abs e : ℕ) (bits : List ℕ) : Type 0 where
  least : e ≤ length bits
  most : length bits + e ≤ 2 * abs + 1

module _ (abs : ℕ) (three : 3 ≤ abs) where
  -- the rules' S
  abbrev S : ℕ
  S = 2 * 2 ^ abs + 1

  last-rung : (n i v : ℕ) → 3 + i ≡ abs → Lengths abs (3 + i) (climb_bits (suc n) S v (rung_start (suc i)))
  last-rung n i v e =
      let s : S - rung_start (suc i) ≡ 2 ^ abs + 1 = subst (λ (x : ℕ). S - 2 ^ x ≡ 2 ^ abs + 1) (sym e) (omega arith) in
      let b : climb_bits (suc n) S v (rung_start (suc i)) ≡ ns_bits (2 ^ abs + 1) (v - rung_start (suc i)) =
      bits-last n S (suc i) v (subst (λ (x : ℕ). S ≤ 2 ^ x + 3 * 2 ^ x) (sym e) (omega (arith, pow_mono three)))
      ∙ ap (λ (x : ℕ). ns_bits x (v - rung_start (suc i))) s in
      let l = ns-length abs (v - rung_start (suc i)) (omega arith) in
      rw b (record { least = omega (arith, l.0); most = omega (arith, l.1) })

  rung-lengths : (n i v : ℕ) → 3 + i ≤ abs → S ≤ n + rung_start (suc i) → Lengths abs (3 + i) (climb_bits n S v (rung_start (suc i)))
  rung-lengths zero i v h fuel = absurd (omega (arith, pow_mono h))
  rung-lengths (suc n) i v h fuel =
      elim (ℕ_discrete (3 + i) abs) [
        | yes e ↦ last-rung n i v e
        | no ne ↦
            let up : suc (3 + i) ≤ abs = omega arith in
            let more : reach (suc i) < S = omega (arith, pow_mono up, pow-suc 2 (3 + i)) in
            elim (dec_lt v (rung_start (suc i) + rung_step (suc i))) [
              | yes stop ↦
                  rw (bits-stop n S (suc i) v more stop)
                  (record { least = omega (arith, length-field_bits (3 + i) (v - rung_start (suc i))); most = omega (arith, length-field_bits (3 + i) (v - rung_start (suc i))) })
              | no on ↦
                  let from : rung_start (suc i) + rung_step (suc i) ≤ v = omega arith in
                  let r = rung-lengths n (suc i) v (omega arith) (omega (arith, next_start (suc i), step-pos (suc i))) in
                  rw (bits-more n S (suc i) v more from)
                  (record { least = omega (arith, r.least); most = omega (arith, r.most) })
            ]
      ]

  first-rung : (n v : ℕ) → S ≤ suc n → (4 ≤ length (climb_bits (suc n) S v 0)) × (length (climb_bits (suc n) S v 0) ≤ 2 * abs - 1)
  first-rung n v fuel =
      elim (ℕ_discrete abs 3) [
        | yes e ↦
            let p : 2 ^ abs ≡ 8 = ap (λ (x : ℕ). 2 ^ x) e in
            let s : S - 0 ≡ 2 ^ 4 + 1 = omega arith in
            let l = ns-length 4 (v - 0) (lit≤ tt) in
            rw (bits-last n S 0 v (omega arith), s) (omega (arith, l.0), omega (arith, l.1))
        | no ne ↦
            let up : 4 ≤ abs = omega arith in
            let more : reach 0 < S = omega (arith, pow_mono up) in
            elim (dec_lt v 8) [
              | yes stop ↦
                  rw (bits-stop n S 0 v more stop) (omega (arith, length-field_bits 3 (v - 0)), omega (arith, length-field_bits 3 (v - 0)))
              | no on ↦
                  let from : 8 ≤ v = omega arith in
                  let r = rung-lengths n 0 v three (omega arith) in
                  rw (bits-more n S 0 v more from) (omega (arith, r.least), omega (arith, r.most))
            ]
      ]

  pub subexp-lengths : (v : ℕ) → (4 ≤ length (subexp_bits S v)) × (length (subexp_bits S v) ≤ 2 * abs - 1)
  unfolding subexp_bits
  subexp-lengths v =
      let e : S ≡ suc (2 * 2 ^ abs) = omega arith in
      subst (λ (n : ℕ). (4 ≤ length (climb_bits n S v 0)) × (length (climb_bits n S v 0) ≤ 2 * abs - 1)) (sym e)
      (first-rung (2 * 2 ^ abs) v (omega arith))
