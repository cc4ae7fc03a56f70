use Prim.Native.Nat.{ℕ, ◌+◌, ◌*◌}
use mathlib.Core.List.{List}
use mathlib.Core.Path.{◌≡◌, sym, ap, subst, ◌∙◌}
use Rattle.laws.specs.Loops.{run}
use Rattle.stage.specs.Inner.{coarse_turn}
use Rattle.lanes.specs.Inner.{IfLow}
use Rattle.lanes.proofs.Lanes.{low-spread}
use Rattle.stage.proofs.Turns.{begins, goes-far, ends}
use native.Mathlib.Omega.{arith}
use Rattle.coarse.proofs.coarse_rows.Goals as goal

pub loop-y-init : goal.loop-y-init
loop-y-init c = (begins _ _ _ _ _ (omega arith) (omega arith), omega arith)

pub coarse_row-best-requires : goal.coarse_row-best-requires
coarse_row-best-requires c = let b = c.both_low-low.ensures in record { coarse = c.requires.coarse; spread = record { same = c.spread.ensures; spread_low = subst (λ (l : List ℕ). IfLow c.both_low-low.result l) (sym c.spread.ensures) (low-spread b.if_low); window_low = b.if_low_2; column_costs = c.column_costs-columns.ensures }; y_bound = c.loop-y-test.true; rows_bound = omega (arith, c.loop-y.invariant.1, c.requires.rows_bound) }

pub loop-y-preserved : goal.loop-y-preserved
loop-y-preserved c = let a = c.args in
    let y = c.loop-y.y in (
      goes-far ((y + 1) * 25) c.loop-y.invariant.0 (omega arith) (omega (arith, c.loop-y-test.true))
          (c.coarse_row-best.ensures.same
          ∙ ap (λ (n : ℕ). run (coarse_turn a.block.now a.window.now) (y * 25) n c.loop-y.best) (let e : y * 25 + 25 ≡ (y + 1) * 25 = omega arith in e)),
      omega (arith, c.coarse_row-best.ensures.few, c.loop-y.invariant.1),
    )

pub returns : goal.returns
returns c = record { same = ends c.loop-y.invariant.0 (omega arith); few = omega (arith, c.loop-y.invariant.0.within, c.loop-y.invariant.1) }
