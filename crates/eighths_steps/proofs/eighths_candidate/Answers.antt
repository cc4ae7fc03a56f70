-- `eighths_candidate`: the k-th of 3 × 3 around the centre, a step apart; two steps at most are added before one is taken back.
-- Assumes nothing.
use Prim.Native.Nat.{◌/◌, ◌%◌}
use Rattle.blend.specs.Inner.{window_from}
use Rattle.stage.proofs.Turns.{step_stays, step-next}
use Rattle.stage.proofs.Reach.{stepped}
use native.Mathlib.Omega.{arith}
use Rattle.eighths_steps.proofs.eighths_candidate.Goals as goal

pub returns-then-k : goal.returns-then-k
returns-then-k c = let a = c.args in
    step_stays a.block.now (window_from a.highs.now a.lows.now) a.best a.corner a.centre a.step a.k c.if-k.true

pub overflow_mul-y : goal.overflow_mul-y
overflow_mul-y c = let a = c.args in
    let p = c.requires in
    let s = stepped a.corner.y a.step a.centre.y (a.k / 3) p.roomy.y_low p.roomy.y_high p.steady.y_around (omega (arith, p.k_bound.0)) in
    omega (arith, s.added, s.step_small)

pub overflow_add-y : goal.overflow_add-y
overflow_add-y c = let a = c.args in
    let p = c.requires in
    let s = stepped a.corner.y a.step a.centre.y (a.k / 3) p.roomy.y_low p.roomy.y_high p.steady.y_around (omega (arith, p.k_bound.0)) in
    omega (arith, s.added, s.step_small, s.m_small)

pub overflow_mul-x : goal.overflow_mul-x
overflow_mul-x c = let a = c.args in
    let p = c.requires in
    let s = stepped a.corner.x a.step a.centre.x (a.k % 3) p.roomy.x_low p.roomy.x_high p.steady.x_around (omega (arith, p.k_bound.0)) in
    omega (arith, s.added, s.step_small)

pub overflow_add-x : goal.overflow_add-x
overflow_add-x c = let a = c.args in
    let p = c.requires in
    let s = stepped a.corner.x a.step a.centre.x (a.k % 3) p.roomy.x_low p.roomy.x_high p.steady.x_around (omega (arith, p.k_bound.0)) in
    omega (arith, s.added, s.step_small, s.m_small)

pub sad_subpel-new-requires : goal.sad_subpel-new-requires
sad_subpel-new-requires c = let a = c.args in
    let p = c.requires in
    let sy = stepped a.corner.y a.step a.centre.y (a.k / 3) p.roomy.y_low p.roomy.y_high p.steady.y_around (omega (arith, p.k_bound.0)) in
    let sx = stepped a.corner.x a.step a.centre.x (a.k % 3) p.roomy.x_low p.roomy.x_high p.steady.x_around (omega arith) in
    record {
      pels = p.fine_bytes.pels;
      high_pels = p.fine_bytes.high_pels;
      low_pels = p.fine_bytes.low_pels;
      high_bytes = p.fine_bytes.high_bytes;
      low_bytes = p.fine_bytes.low_bytes;
      y_reached = sy.reached;
      x_reached = sx.reached;
    }

pub returns : goal.returns
returns c = let a = c.args in
    step-next a.block.now (window_from a.highs.now a.lows.now) a.best a.corner a.centre a.step a.k c.if-k.false c.sad_subpel-new.ensures c.better.ensures
