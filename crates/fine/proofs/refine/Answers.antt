-- `refine`: the start is a sum by whole pels; at 0 it stays, else three steps follow.
-- Assumes nothing.
use Prim.Native.Nat.{◌+◌, ◌*◌}
use mathlib.Core.Path.{sym, ap, subst, ◌∙◌}
use Rattle.stage.specs.declared.Best.{Best}
use Rattle.stage.specs.Inner.{eightfold, Lies}
use Rattle.stage.proofs.Reach.{refined_in-is, steady-start}
use Rattle.stage.proofs.NoneWins.{steps-idle}
use Rattle.stage.proofs.Whole.{eighths-start}
use native.Mathlib.Omega.{arith}
use Rattle.fine.proofs.refine.Goals as goal

pub overflow_add-at : goal.overflow_add-at
overflow_add-at c = omega (arith, c.requires.lies.y_high, c.requires.lies.x_high, c.requires.lies.y_low, c.requires.lies.x_low, c.requires.roomy.y_high, c.requires.roomy.x_high, c.requires.roomy.y_low, c.requires.roomy.x_low)

pub overflow_add-at-2 : goal.overflow_add-at-2
overflow_add-at-2 c = omega (arith, c.requires.lies.y_high, c.requires.lies.x_high, c.requires.lies.y_low, c.requires.lies.x_low, c.requires.roomy.y_high, c.requires.roomy.x_high, c.requires.roomy.y_low, c.requires.roomy.x_low)

pub overflow_sub-at : goal.overflow_sub-at
overflow_sub-at c = omega (arith, c.requires.lies.y_high, c.requires.lies.x_high, c.requires.lies.y_low, c.requires.lies.x_low, c.requires.roomy.y_high, c.requires.roomy.x_high, c.requires.roomy.y_low, c.requires.roomy.x_low)

pub overflow_add-at-3 : goal.overflow_add-at-3
overflow_add-at-3 c = omega (arith, c.requires.lies.y_high, c.requires.lies.x_high, c.requires.lies.y_low, c.requires.lies.x_low, c.requires.roomy.y_high, c.requires.roomy.x_high, c.requires.roomy.y_low, c.requires.roomy.x_low)

pub overflow_add-at-4 : goal.overflow_add-at-4
overflow_add-at-4 c = omega (arith, c.requires.lies.y_high, c.requires.lies.x_high, c.requires.lies.y_low, c.requires.lies.x_low, c.requires.roomy.y_high, c.requires.roomy.x_high, c.requires.roomy.y_low, c.requires.roomy.x_low)

pub overflow_sub-at-2 : goal.overflow_sub-at-2
overflow_sub-at-2 c = omega (arith, c.requires.lies.y_high, c.requires.lies.x_high, c.requires.lies.y_low, c.requires.lies.x_low, c.requires.roomy.y_high, c.requires.roomy.x_high, c.requires.roomy.y_low, c.requires.roomy.x_low)

pub sad_int-all-requires : goal.sad_int-all-requires
sad_int-all-requires c = record { framed = record { pels = c.requires.fine.pels; seen = c.requires.fine.seen; rows = omega (arith, c.requires.lies.y_high); columns = omega (arith, c.requires.lies.x_high) }; start_bound = omega arith }

pub overflow_mul-first : goal.overflow_mul-first
overflow_mul-first c = omega (arith, c.requires.lies.y_high, c.requires.lies.x_high, c.requires.lies.y_low, c.requires.lies.x_low, c.requires.roomy.y_high, c.requires.roomy.x_high, c.requires.roomy.y_low, c.requires.roomy.x_low)

pub overflow_add-first : goal.overflow_add-first
overflow_add-first c = omega (arith, c.requires.lies.y_high, c.requires.lies.x_high, c.requires.lies.y_low, c.requires.lies.x_low, c.requires.roomy.y_high, c.requires.roomy.x_high, c.requires.roomy.y_low, c.requires.roomy.x_low)

pub overflow_mul-first-2 : goal.overflow_mul-first-2
overflow_mul-first-2 c = omega (arith, c.requires.lies.y_high, c.requires.lies.x_high, c.requires.lies.y_low, c.requires.lies.x_low, c.requires.roomy.y_high, c.requires.roomy.x_high, c.requires.roomy.y_low, c.requires.roomy.x_low)

pub overflow_add-first-2 : goal.overflow_add-first-2
overflow_add-first-2 c = omega (arith, c.requires.lies.y_high, c.requires.lies.x_high, c.requires.lies.y_low, c.requires.lies.x_low, c.requires.roomy.y_high, c.requires.roomy.x_high, c.requires.roomy.y_low, c.requires.roomy.x_low)

pub overflow_sub-idle : goal.overflow_sub-idle
overflow_sub-idle c = omega (arith, c.requires.lies.y_high, c.requires.lies.x_high, c.requires.lies.y_low, c.requires.lies.x_low, c.requires.roomy.y_high, c.requires.roomy.x_high, c.requires.roomy.y_low, c.requires.roomy.x_low)

pub overflow_mul-idle : goal.overflow_mul-idle
overflow_mul-idle c = omega (arith, c.requires.lies.y_high, c.requires.lies.x_high, c.requires.lies.y_low, c.requires.lies.x_low, c.requires.roomy.y_high, c.requires.roomy.x_high, c.requires.roomy.y_low, c.requires.roomy.x_low)

pub idle-requires : goal.idle-requires
idle-requires c = (omega (arith, c.sad_int-all.ensures.few), omega arith)

pub returns-then-first-eq0 : goal.returns-then-first-eq0
returns-then-first-eq0 c = let a = c.args in
    let p = c.requires in
    let first : Best = record { cost = c.sad_int-all.result.cost; y = 8 * a.full.y + 7; x = 8 * a.full.x + 7; rows = c.sad_int-all.result.rows } in
    let e =
    refined_in-is a.corner (eightfold a.full) a.block.now a.window.now (eighths-start a.block.now a.window.now a.corner a.full c.sad_int-all.ensures)
    (c.idle.ensures ∙ sym (steps-idle a.block.now a.window.now a.corner first c.if-first-eq0.true)) in record { next = record { same = e; few = omega (arith, ap (λ (b : Best). b.rows) c.idle.ensures, c.sad_int-all.ensures.few) }; lies_2 = subst (λ (b : Best). Lies 7 (8 * a.full.y + 7) (8 * a.full.x + 7) b.y b.x) (sym c.idle.ensures) (record { y_low = omega arith; y_high = omega arith; x_low = omega arith; x_high = omega arith }) }

pub steps-requires : goal.steps-requires
steps-requires c = record { fine = c.requires.fine; roomy = c.requires.roomy; steady = steady-start c.args.corner c.args.full.y c.args.full.x c.requires.lies; rows_bound = omega (arith, c.sad_int-all.ensures.few) }

pub returns : goal.returns
returns c = let a = c.args in record {
  next = record {
    same =
        refined_in-is a.corner (eightfold a.full) a.block.now a.window.now (eighths-start a.block.now a.window.now a.corner a.full c.sad_int-all.ensures)
        c.steps.ensures.next.same;
    few = omega (arith, c.steps.ensures.next.few, c.sad_int-all.ensures.few);
  };
  lies_2 = c.steps.ensures.lies;
}
