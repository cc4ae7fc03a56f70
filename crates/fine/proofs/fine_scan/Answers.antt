-- `fine_scan`: full pel, then eighths from eight times its winner, which the window still reaches.
-- Assumes nothing.
use Rattle.stage.proofs.Reach.{fine_in-is}
use native.Mathlib.Omega.{arith}
use Rattle.fine.proofs.fine_scan.Goals as goal

pub refine-last-requires : goal.refine-last-requires
refine-last-requires c = let l = c.full_pel-full.ensures.lies in record { fine = c.requires.fine; roomy = c.requires.roomy; lies = record { y_low = omega (arith, l.y_low); y_high = omega (arith, l.y_high); x_low = omega (arith, l.x_low); x_high = omega (arith, l.x_high) } }

pub returns : goal.returns
returns c = let a = c.args in
    let near = c.full_pel-full.ensures.lies in
    let last = c.refine-last.ensures.lies_2 in
    let room = c.requires.roomy in
    record {
      same = fine_in-is a.centre a.block.now a.window.now c.full_pel-full.ensures.next.same c.refine-last.ensures.next.same;
      few = omega (arith, c.full_pel-full.ensures.next.few, c.refine-last.ensures.next.few);
      y_last = omega (arith, last.y_high, near.y_high, room.y_high);
      x_last = omega (arith, last.x_high, near.x_high, room.x_high);
    }
