use Prim.Native.Nat.{ℕ, ◌+◌, ◌≤◌}
use mathlib.Core.Path.{◌≡◌, sym, ◌∙◌, subst}
use native.Mathlib.Omega.{arith}
use Rattle.root.specs.Inner.{middle}
use Rattle.root.proofs.Halves.{low_end, high_end, found, raised, lowered}
use Rattle.root.proofs.nearest_root.Goals.{then-middle_squared-tall, else-middle_squared-tall}
use Rattle.root.proofs.nearest_root.Goals as goal

pub loop-high-init : goal.loop-high-init
loop-high-init c = record { from = omega arith; order = omega arith; to = omega arith; under = low_end c.requires; reaches = high_end c.requires; short = omega arith }

pub loop-high-preserved : goal.loop-high-preserved
loop-high-preserved c =
    let inside = c.between-k.ensures in
    elim c.if-middle_squared-tall.branch [
      | then-middle_squared-tall w ↦ rw (w.low-is, w.high-is) (raised c.requires c.loop-high.invariant inside.0 inside.1 (omega (arith, w.if-middle_squared-tall.true, c.middle_squared.ensures)))
      | else-middle_squared-tall w ↦ rw (w.low-is, w.high-is) (lowered c.requires c.loop-high.invariant inside.0 inside.1 (omega (arith, w.if-middle_squared-tall.false, c.middle_squared.ensures)))
    ]

pub returns : goal.returns
returns c = let at = c.loop-high in
    let met : at.low + 1 ≡ at.high = omega arith in
    sym (found c.requires at.low at.invariant.under (subst (λ (k : ℕ). c.args.tall ≤ middle k) (sym met) at.invariant.reaches) ∙ met)
