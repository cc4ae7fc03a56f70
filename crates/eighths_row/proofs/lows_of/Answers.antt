use mathlib.Core.Path.{refl, sym}
use Rattle.cost.proofs.Bounded.{fill_none, fill_more, fill-all, fill-at-most}
use native.Mathlib.Omega.{arith}
use Rattle.eighths_row.proofs.lows_of.Goals as goal

pub loop-i-init : goal.loop-i-init
loop-i-init c = fill_none _ _ _ _ _ (sym c.requires)

pub loop-i-preserved : goal.loop-i-preserved
loop-i-preserved c = fill_more c.loop-i.invariant (omega (arith, c.loop-i.invariant.long, c.loop-i-test.true)) refl (omega (arith, c.type_inv.window c.loop-i.i))

pub returns : goal.returns
returns c = record { out_after = fill-all c.loop-i.invariant (omega (arith, c.loop-i.invariant.long)); at_most = fill-at-most c.loop-i.invariant (omega (arith, c.loop-i.invariant.long)) }
