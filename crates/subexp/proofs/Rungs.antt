-- A rung's start and step are those of the rules' climb.
-- Assumes nothing.
use Prim.Native.Nat.{ℕ, zero, suc, ◌+◌, ◌-◌, ◌^◌, ◌≤◌, ◌<◌}
use mathlib.Core.Path.{◌≡◌, refl, ap}
use native.Mathlib.Decide.{dec_le}
use native.Mathlib.Nat.{pow-suc}
use native.Mathlib.Omega.{arith}
use borrow.Author.Tests.{ne_eqb}
use lib.Pow.{pow_pos, pow_mono}
use Rattle.bits.proofs.BitLength.{bit_length-is}
use Rattle.subexp.specs.Ladder.{step_at, width_of}
use Rattle.subexp.specs.Inner.{rung_bits, rung_start, rung_step}

pub step_is : (i : ℕ) → step_at (rung_start i) ≡ rung_step i
step_is zero = refl
step_is (suc i) = rw (ne_eqb (2 ^ (3 + i)) 0 (λ e. absurd (omega (arith, pow_pos (3 + i)))))

pub width_is : (b : ℕ) → width_of (2 ^ b) ≡ b
width_is b =
    let e : width_of (2 ^ b) ≡ suc b - 1 = ap (λ (w : ℕ). w - 1) (bit_length-is (2 ^ b) (suc b) (pow_pos b) (omega (arith, pow-suc 2 b, pow_pos b)) (omega (arith, pow-suc 2 b))) in
    omega arith

pub next_start : (i : ℕ) → rung_start i + rung_step i ≡ rung_start (suc i)
next_start zero = refl
next_start (suc i) =
    let e : 3 + suc i ≡ suc (3 + i) = omega arith in
    rw (e, pow-suc 2 (3 + i)) (omega arith)

-- behind the first rung, start and step are one
pub later-bits : (i : ℕ) → (i ≡ 0 → ⊥) → 3 + (i - 1) ≡ rung_bits i
later-bits zero h = absurd (h refl)
later-bits (suc i) h = omega arith

pub later-start : (i : ℕ) → (i ≡ 0 → ⊥) → rung_step i ≡ rung_start i
later-start zero h = absurd (h refl)
later-start (suc i) h = refl

pub step-pos : (i : ℕ) → 0 < rung_step i
step-pos i = pow_pos (rung_bits i)

pub le-start : (i : ℕ) → i ≤ rung_start i
le-start zero = omega arith
le-start (suc i) = omega (arith, next_start i, step-pos i, le-start i)

-- few rungs start below 2 ^ 16
pub few-rungs : (i : ℕ) → rung_start i < 65536 → i ≤ 13
few-rungs i h =
    elim (dec_le i 13) [
      | yes l ↦ l
      | no n ↦
          let e : i ≡ suc (i - 1) = omega arith in
          let s : rung_start i ≡ 2 ^ (3 + (i - 1)) = ap rung_start e in
          let up : 16 ≤ 3 + (i - 1) = omega arith in
          absurd (omega (arith, pow_mono up))
    ]
