use mathlib.Core.Path.{refl, ◌∙◌}
use native.Mathlib.Omega.{arith}
use Rattle.trim.proofs.Indices.{index-again, index-done}
use Rattle.trim.proofs.Under.{count_step, under-count, count-taken, count-passed}
use Rattle.held_trim.proofs.count_under.Goals.{then-limit-squares, else-limit-squares}
use Rattle.held_trim.proofs.count_under.Goals as goal

pub loop-i-init : goal.loop-i-init
loop-i-init c = (omega arith, omega arith, refl)

pub loop-i-preserved : goal.loop-i-preserved
loop-i-preserved c = let a = c.args in
    let l = c.loop-i in
    let inside = c.loop-i-test.true in
    let squares = a.squares.now in
    let limit = a.limit in
    elim c.if-limit-squares.branch [
      | then-limit-squares w ↦ (omega arith, rw w.count-is (omega arith), index-again (count_step squares limit) inside (count-taken squares limit l.i l.count c.if-limit-squares.count w.if-limit-squares.true w.count-is) l.invariant.2)
      | else-limit-squares w ↦ (omega arith, rw w.count-is (omega arith), index-again (count_step squares limit) inside (count-passed squares limit l.i l.count c.if-limit-squares.count w.if-limit-squares.false w.count-is) l.invariant.2)
    ]

pub returns : goal.returns
returns c = let a = c.args in
    index-done (count_step a.squares.now a.limit) c.loop-i-test.false c.loop-i.invariant.2 ∙ under-count a.squares.now a.limit a.n
