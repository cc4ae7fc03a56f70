use Rattle.std.specs.Int.{from_bool}
use Prim.Native.Nat.{◌≤◌}
use mathlib.Core.Bool.{Bool, true, false}
use mathlib.Core.Path.{◌≡◌, refl, ◌∙◌}
use native.Mathlib.Omega.{arith}
use Rattle.laws.specs.Refusal.{choose}
use Rattle.cost.proofs.Sum.{none, more, all}
use Rattle.lanes.proofs.count_below.Goals as goal

one : (t : Bool) → from_bool t ≡ choose t 1 0
one true = refl
one false = refl

few : (t : Bool) → from_bool t ≤ 1
few true = omega arith
few false = omega arith

pub loop-cost-init : goal.loop-cost-init
loop-cost-init c = none _ _ _

pub loop-cost-preserved : goal.loop-cost-preserved
loop-cost-preserved c = let e = c.from-below.ensures in
    more c.loop-cost.invariant (omega arith) (e ∙ one _) (rw e (few _))

pub returns : goal.returns
returns c = all _ c.loop-cost.invariant (omega arith) (omega arith)
