-- Every motion that the search finds is within 223 eighths, so that its stored form is at most 446.
-- Assumes nothing.
use Prim.Native.Nat.{ℕ, ◌+◌, ◌*◌, ◌/◌, ◌≤◌}
use mathlib.Core.Path.{◌≡◌, refl, ap, ◌∙◌}
use native.Mathlib.Omega.{arith}
use lib.IntN.{ℤ, pos, ◌+ℤ◌, ◌*ℤ◌, nat_abs}
use Rattle.plane.specs.declared.Place.{Place}
use Rattle.plane.specs.Clamp.{offset}
use Rattle.plane.specs.Difference.{difference}
use Rattle.cost.specs.Cost.{eighths_cost}
use Rattle.plane.proofs.Offsets.{offset-add, offset-magnitude}
use Rattle.stage.specs.Stage.{coarse, full_pel, eighths_step, refined, priced}
use Rattle.stage.proofs.Motion.{offset-same, offset-back, offset-twice, offset-eightfold}
use Rattle.stage.proofs.Scan.{Within}
use Rattle.stage.proofs.Stages.{coarse-inside, full_pel-inside, eighths_step-inside}
use Rattle.search.specs.Search.{Scene, motion_in, stored, block_at}

-- the offset is a biased number of at most `last`
record Biased (bias last : ℕ) (z : ℤ) : Type 0 where
  number : ℕ
  same : z ≡ offset bias number
  small : number ≤ last

within : (b last n : ℕ) {c z : ℤ} → Biased b last c → Within n c z → Biased (b + n) (last + 2 * n) z
within b last n {c} {z} m w =
    let f : m.number ≤ last = m.small in
    let g : w.steps ≤ 2 * n = w.few in
    record {
      number = m.number + w.steps;
      same = w.same ∙ (ap (λ (y : ℤ). y +ℤ offset n w.steps) m.same ∙ offset-add b m.number n w.steps);
      small = omega arith;
    }

twice : (b last : ℕ) {z : ℤ} → Biased b last z → Biased (2 * b) (2 * last) (pos 2 *ℤ z)
twice b last m =
    let f : m.number ≤ last = m.small in
    record { number = 2 * m.number; same = ap (λ (y : ℤ). pos 2 *ℤ y) m.same ∙ offset-twice b m.number; small = omega arith }

eightfold : (b last : ℕ) {z : ℤ} → Biased b last z → Biased (8 * b) (8 * last) (pos 8 *ℤ z)
eightfold b last m =
    let f : m.number ≤ last = m.small in
    record { number = 8 * m.number; same = ap (λ (y : ℤ). pos 8 *ℤ y) m.same ∙ offset-eightfold b m.number; small = omega arith }

zero-motion : Biased 0 0 (offset 12 12)
zero-motion = record { number = 0; same = offset-same 12 12 0 0 refl; small = omega arith }

module _ (s : Scene) (R C : ℕ) where
  refined-range : (place : Place) (v u : ℤ) → Biased 216 432 v → Biased 216 432 u →
      Biased 223 446 (refined s.input s.ref place v u).dy × Biased 223 446 (refined s.input s.ref place v u).dx
  unfolding refined
  refined-range place v u p q =
      let start = priced (eighths_cost s.input s.ref place) v u in
      let by_4 = eighths_step s.input s.ref place 4 start in
      let by_2 = eighths_step s.input s.ref place 2 by_4 in
      let i4 = eighths_step-inside s.input s.ref place 4 start in
      let i2 = eighths_step-inside s.input s.ref place 2 by_4 in
      let i1 = eighths_step-inside s.input s.ref place 1 by_2 in (
        within 222 444 1 (within 220 440 2 (within 216 432 4 p i4.0) i2.0) i1.0,
        within 222 444 1 (within 220 440 2 (within 216 432 4 q i4.1) i2.1) i1.1,
      )

  motion-biased : Biased 223 446 (motion_in s R C).dy × Biased 223 446 (motion_in s R C).dx
  unfolding motion_in
  motion-biased =
      let half = block_at 8 (s.width / 2) (s.height / 2) R C in
      let whole = block_at 16 s.width s.height R C in
      let far = coarse s.input_half s.ref_half half in
      let i = coarse-inside s.input_half s.ref_half half in
      let full = full_pel s.input s.ref whole (pos 2 *ℤ far.dy) (pos 2 *ℤ far.dx) in
      let j = full_pel-inside s.input s.ref whole (pos 2 *ℤ far.dy) (pos 2 *ℤ far.dx) in
      refined-range whole (pos 8 *ℤ full.dy) (pos 8 *ℤ full.dx)
      (eightfold 27 54 (within 24 48 3 (twice 12 24 (within 0 0 12 zero-motion i.0)) j.0))
      (eightfold 27 54 (within 24 48 3 (twice 12 24 (within 0 0 12 zero-motion i.1)) j.1))

  near : (z : ℤ) → Biased 223 446 z → nat_abs z ≤ 223
  near z m =
      let f : m.number ≤ 446 = m.small in
      let e : nat_abs z ≡ difference m.number 223 = ap nat_abs m.same ∙ offset-magnitude 223 m.number in
      omega arith

  kept : (z : ℤ) → Biased 223 446 z → stored z ≤ 446
  kept z m =
      let f : m.number ≤ 446 = m.small in
      let e : stored z ≡ m.number = ap stored m.same ∙ offset-back 223 m.number in
      omega arith

  -- every motion is within 223 eighths each way
  pub motion-within-223 : (nat_abs (motion_in s R C).dy ≤ 223) × (nat_abs (motion_in s R C).dx ≤ 223)
  motion-within-223 = (near _ motion-biased.0, near _ motion-biased.1)

  -- and its stored form at most 446
  pub stored-motion-le-446 : (stored (motion_in s R C).dy ≤ 446) × (stored (motion_in s R C).dx ≤ 446)
  stored-motion-le-446 = (kept _ motion-biased.0, kept _ motion-biased.1)
