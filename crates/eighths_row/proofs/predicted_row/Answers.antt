use mathlib.Core.Path.{refl}
use Rattle.blend.proofs.Weighed.{weighs, blend-fits, four-at}
use Rattle.cost.proofs.Bounded.{fill_none, fill_more, fill-all}
use Rattle.blend.proofs.Blended.{predicted-is}
use native.Mathlib.Omega.{arith}
use Rattle.eighths_row.proofs.predicted_row.Goals as goal

pub weights_at-of_highs-requires : goal.weights_at-of_highs-requires
weights_at-of_highs-requires c = (omega arith, c.requires.fractions)

pub weights_at-of_lows-requires : goal.weights_at-of_lows-requires
weights_at-of_lows-requires c = (omega arith, c.requires.fractions)

pub loop-j-init : goal.loop-j-init
loop-j-init c = fill_none _ _ _ _ _ refl

pub weigh-high-requires : goal.weigh-high-requires
weigh-high-requires c = record { weighs = rw c.weights_at-of_highs.ensures (weighs 4 256 c.args.fy c.args.fx (omega arith) c.requires.fractions); four = four-at c.requires.byte_rows.high_bytes c.requires.byte_rows.high_pels c.loop-j.j c.loop-j-test.true }

pub weigh-low-requires : goal.weigh-low-requires
weigh-low-requires c = record { weighs = rw c.weights_at-of_lows.ensures (weighs 1 256 c.args.fy c.args.fx (omega arith) c.requires.fractions); four = four-at c.requires.byte_rows.low_bytes c.requires.byte_rows.low_pels c.loop-j.j c.loop-j-test.true }

pub blend-requires : goal.blend-requires
blend-requires c = (
  blend-fits 4 c.args.fy c.args.fx c.weights_at-of_highs.ensures c.weigh-high.ensures c.requires.fractions (four-at c.requires.byte_rows.high_bytes c.requires.byte_rows.high_pels c.loop-j.j c.loop-j-test.true),
  blend-fits 1 c.args.fy c.args.fx c.weights_at-of_lows.ensures c.weigh-low.ensures c.requires.fractions (four-at c.requires.byte_rows.low_bytes c.requires.byte_rows.low_pels c.loop-j.j c.loop-j-test.true),
)

pub loop-j-preserved : goal.loop-j-preserved
loop-j-preserved c = fill_more c.loop-j.invariant c.loop-j-test.true
    (predicted-is c.args.fy c.args.fx c.args.highs.now c.args.lows.now c.loop-j.j c.weights_at-of_highs.ensures c.weights_at-of_lows.ensures c.weigh-high.ensures c.weigh-low.ensures c.blend.ensures)
    (omega arith)

pub returns : goal.returns
returns c = fill-all c.loop-j.invariant (omega arith)
