-- The rung on which a code ends, without a climb: by the length of its number, or the last rung.
-- Assumes nothing.
use Prim.Native.Nat.{ℕ, zero, suc, ◌+◌, ◌-◌, ◌^◌, ◌≤◌, ◌<◌}
use mathlib.Core.Bool.{Bool, true, false}
use mathlib.Core.Path.{◌≡◌, refl, ap, sym, subst}
use native.Mathlib.Decide.{dec_lt}
use native.Mathlib.Nat.{pow-suc}
use native.Mathlib.Numerals.{add-one}
use native.Mathlib.Omega.{arith}
use borrow.Author.Tests.{le-leb, lt-leb}
use lib.Dec.{leb}
use lib.Pow.{pow_mono}
use Rattle.laws.specs.Refusal.{choose}
use Rattle.bits.specs.Ns.{bit_length}
use Rattle.bits.proofs.BitLength.{Length, bit_length-length}
use Rattle.subexp.specs.Inner.{Rung, LastIs, rung_start, rung_step, last_rung, climbs}
use Rattle.subexp.proofs.Climbing.{Reached, at-the-foot, up, there}
use Rattle.subexp.proofs.Rungs.{next_start}

module _ (S v last : ℕ) (less : v < S) (small : S ≤ 65536) (l : LastIs S last) where
  climbed : (k : ℕ) → ((j : ℕ) → j < k → climbs S v j ≡ true) → Reached S v k
  climbed zero t = at-the-foot S v (omega arith)
  climbed (suc k) t = subst (Reached S v) (add-one k) (up S v k (t k (omega arith)) (climbed k (λ j h. t j (omega arith))))

  pub first-rung : v < 8 → Rung S v 0
  first-rung near = there S v 0 less small (stays (last_rung S 0)) (at-the-foot S v (omega arith))
    where
      stays : (b : Bool) → choose b false (leb 8 v) ≡ false
      stays true = refl
      stays false = lt-leb 8 v near

  module _ (w : ℕ) (ew : w ≡ bit_length v) (far : 8 ≤ v) where
    long : Length v w
    long = subst (Length v) (sym ew) (bit_length-length v)

    pub four : 4 ≤ w
    four =
        elim (dec_lt w 4) [
          | yes h ↦ absurd (omega (arith, pow_mono {i = w} {j = 3} (omega arith), long.below))
          | no n ↦ omega arith
        ]

    passed : (j : ℕ) → j < w - 3 → rung_start j + rung_step j ≤ v
    passed j h =
        let most : 3 + j ≤ w - 1 = omega arith in
        let e : w ≡ suc (w - 1) = omega (arith, four) in
        omega (arith, next_start j, pow_mono most, ap (λ (k : ℕ). 2 ^ k) e, pow-suc 2 (w - 1), long.least (omega arith))

    goes : (j : ℕ) → j < w - 3 → j < last → climbs S v j ≡ true
    goes j h k = rw (l.before j k, le-leb (rung_start j + rung_step j) v (passed j h))

    pub by_length : w - 3 < last → Rung S v (w - 3)
    by_length h = there S v (w - 3) less small stop (climbed (w - 3) (λ j k. goes j k (omega arith)))
      where
        stop : climbs S v (w - 3) ≡ false
        stop =
            let e : 3 + (w - 3) ≡ w = omega (arith, four) in
            let more : v < rung_start (w - 3) + rung_step (w - 3) = omega (arith, next_start (w - 3), ap (λ (k : ℕ). 2 ^ k) e, long.below) in
            rw (l.before (w - 3) h, lt-leb (rung_start (w - 3) + rung_step (w - 3)) v more)

    pub by_last : last ≤ w - 3 → Rung S v last
    by_last h = there S v last less small (rw l.last) (climbed last (λ j k. goes j (omega arith) k))
