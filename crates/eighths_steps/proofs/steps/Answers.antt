-- `steps`: three steps, each from what the step before gave, within what is left of the reach; the bytes of the window are the window.
-- Assumes nothing.
use Rattle.stage.specs.Inner.{at, Steady}
use Rattle.stage.proofs.Reach.{steady-less, steady-after, lies-after, steps-are}
use Rattle.stage.proofs.Whole.{fine-bytes}
use Rattle.blend.proofs.Blended.{window-back}
use native.Mathlib.Omega.{arith}
use Rattle.eighths_steps.proofs.steps.Goals as goal

pub eighths_step-by_4-requires : goal.eighths_step-by_4-requires
eighths_step-by_4-requires c = let p = c.requires in
    let a = c.args in record { fine_bytes = fine-bytes p.fine (c.highs_of.ensures.out_after, c.highs_of.ensures.at_most) (c.lows_of.ensures.out_after, c.lows_of.ensures.at_most); roomy = p.roomy; steady = steady-less a.corner (at a.first.y a.first.x) p.steady (omega arith); rows_bound = omega (arith, p.rows_bound) }

pub eighths_step-by_2-requires : goal.eighths_step-by_2-requires
eighths_step-by_2-requires c = let p = c.requires in
    let a = c.args in
    let b = c.eighths_step-by_4.result in
    let s : Steady 3 a.corner (at b.y b.x) = steady-after a.corner a.first.y a.first.x b.y b.x p.steady c.eighths_step-by_4.ensures.lies (omega arith) in record { fine_bytes = fine-bytes p.fine (c.highs_of.ensures.out_after, c.highs_of.ensures.at_most) (c.lows_of.ensures.out_after, c.lows_of.ensures.at_most); roomy = p.roomy; steady = steady-less a.corner (at b.y b.x) s (omega arith); rows_bound = omega (arith, c.eighths_step-by_4.ensures.next.few, p.rows_bound) }

pub eighths_step-requires : goal.eighths_step-requires
eighths_step-requires c = let p = c.requires in
    let a = c.args in
    let b = c.eighths_step-by_4.result in
    let d = c.eighths_step-by_2.result in
    let s : Steady 3 a.corner (at b.y b.x) = steady-after a.corner a.first.y a.first.x b.y b.x p.steady c.eighths_step-by_4.ensures.lies (omega arith) in record { fine_bytes = fine-bytes p.fine (c.highs_of.ensures.out_after, c.highs_of.ensures.at_most) (c.lows_of.ensures.out_after, c.lows_of.ensures.at_most); roomy = p.roomy; steady = steady-after a.corner b.y b.x d.y d.x s c.eighths_step-by_2.ensures.lies (omega arith); rows_bound = omega (arith, c.eighths_step-by_2.ensures.next.few, c.eighths_step-by_4.ensures.next.few, p.rows_bound) }

pub returns : goal.returns
returns c = let a = c.args in
    let b = c.eighths_step-by_4.result in
    let d = c.eighths_step-by_2.result in
    let f = c.eighths_step.result in record {
      next = record {
        same =
            steps-are a.corner a.block.now a.window.now a.first (window-back a.window.now c.highs_of.ensures.out_after c.lows_of.ensures.out_after)
            c.eighths_step-by_4.ensures.next.same c.eighths_step-by_2.ensures.next.same c.eighths_step.ensures.next.same;
        few = omega (arith, c.eighths_step.ensures.next.few, c.eighths_step-by_2.ensures.next.few, c.eighths_step-by_4.ensures.next.few);
      };
      lies = lies-after 6 1 a.first.y a.first.x d.y d.x f.y f.x
          (lies-after 4 2 a.first.y a.first.x b.y b.x d.y d.x c.eighths_step-by_4.ensures.lies c.eighths_step-by_2.ensures.lies) c.eighths_step.ensures.lies;
    }
