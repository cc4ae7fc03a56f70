-- `collect_motion_samples`: refused by the table, with no samples nothing is written, otherwise an accepted call has what the search asks.
-- Assumes nothing.
use mathlib.Core.Path.{sym}
use native.Mathlib.Omega.{arith}
use lib.ListN.{length}
use Rattle.refusal.proofs.Rows.{above-zero}
use Rattle.search.specs.Refusal.{task, lent}
use Rattle.search.proofs.Rows.{ready, count_small, small-sides}
use Rattle.search.proofs.Ending.{done_refused, done_none, done-some}
use Rattle.search.proofs.collect_motion_samples.Goals as goal

pub returns-in-Err : goal.returns-in-Err
returns-in-Err c = let a = c.args in
    rw c.refused.ensures
    (done_refused (task a.input_y.now a.ref_y.now a.width a.height a.classes.now)
    (lent a.input_half.now a.ref_half.now a.words.now)
    c.in-Err.ensures (λ e. let h = above-zero c.in-Err.refusal in omega (arith, h, e)))

pub overflow_mul-samples : goal.overflow_mul-samples
overflow_mul-samples c = let a = c.args in
    let small =
    small-sides a.width a.height (length a.input_y.now) (length a.ref_y.now)
    a.classes.now (length a.input_half.now) (length a.ref_half.now) (length a.words.now)
    (sym c.in_default.ensures) in
    omega (arith, count_small a.width a.height small.narrow small.low)

pub returns-then-samples-eq0 : goal.returns-then-samples-eq0
returns-then-samples-eq0 c = let a = c.args in
    done_none (task a.input_y.now a.ref_y.now a.width a.height a.classes.now)
    (lent a.input_half.now a.ref_half.now a.words.now)
    (sym c.in_default.ensures) (omega (arith, c.if-samples-eq0.true))

pub search_into-rows-requires : goal.search_into-rows-requires
search_into-rows-requires c = let a = c.args in
    ready a.input_y.now a.ref_y.now a.width a.height a.classes.now a.input_half.now a.ref_half.now a.words.now
    (sym c.in_default.ensures)
    (omega arith)

pub returns : goal.returns
returns c = let a = c.args in
    let e = c.search_into-rows.ensures in
    done-some (task a.input_y.now a.ref_y.now a.width a.height a.classes.now)
    (lent a.input_half.now a.ref_half.now a.words.now)
    (sym c.in_default.ensures)
    c.if-samples-eq0.false
    e.input_half_after e.ref_half_after e.words_after e.value
