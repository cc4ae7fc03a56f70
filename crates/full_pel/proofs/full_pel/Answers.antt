use Prim.Native.Nat.{◌+◌}
use mathlib.Core.Path.{◌≡◌, sym, ap, subst, ◌∙◌}
use Rattle.laws.specs.Loops.{run}
use Rattle.cost.specs.Inner.{window_costs}
use Rattle.stage.specs.declared.Best.{Best}
use Rattle.stage.specs.Inner.{full_turn, full_pel_in, Lies}
use Rattle.stage.proofs.Turns.{begins, goes_on, ends, start-whole}
use Rattle.stage.proofs.Reach.{full_pel_in-lies}
use Rattle.stage.proofs.NoneWins.{full-idle}
use native.Mathlib.Omega.{arith}
use Rattle.full_pel.proofs.full_pel.Goals as goal

pub returns-then-first-eq0 : goal.returns-then-first-eq0
unfolding full_pel_in
returns-then-first-eq0 c = let a = c.args in
    let s = start-whole (window_costs 16 24 a.block.now a.window.now 4 4) 16 a.centre.y a.centre.x c.sad_int-start.ensures in
    let e : c.idle.result ≡ full_pel_in a.centre a.block.now a.window.now =
    c.idle.ensures
    ∙ (sym (full-idle a.block.now a.window.now a.centre (record { cost = c.sad_int-start.result.cost; y = a.centre.y; x = a.centre.x; rows = c.sad_int-start.result.rows }) c.if-first-eq0.true)
    ∙ ap (run (full_turn a.centre a.block.now a.window.now) 0 49) s) in record { next = record { same = e; few = omega (arith, ap (λ (b : Best). b.rows) c.idle.ensures, c.sad_int-start.ensures.few) }; lies = subst (λ (b : Best). Lies 3 a.centre.y a.centre.x b.y b.x) (sym e) (full_pel_in-lies a.centre a.block.now a.window.now c.requires.roomy) }

pub loop-k-init : goal.loop-k-init
loop-k-init c = (begins _ _ _ _ _ (omega arith) (omega arith), omega (arith, c.sad_int-start.ensures.few))

pub full_candidate-best-requires : goal.full_candidate-best-requires
full_candidate-best-requires c = record { fine = c.requires.fine; roomy = c.requires.roomy; k_bound = (c.loop-k-test.true, omega (arith, c.loop-k.invariant.0.within, c.loop-k.invariant.1)) }

pub loop-k-preserved : goal.loop-k-preserved
loop-k-preserved c = (
  goes_on (c.loop-k.k + 1) c.loop-k.invariant.0 c.loop-k-test.true (omega arith) c.full_candidate-best.ensures.same,
  omega (arith, c.full_candidate-best.ensures.few, c.loop-k.invariant.1),
)

pub returns : goal.returns
unfolding full_pel_in
returns c = let a = c.args in
    let e : c.loop-k.best ≡ full_pel_in a.centre a.block.now a.window.now =
    ends c.loop-k.invariant.0 (omega arith)
    ∙ ap (run (full_turn a.centre a.block.now a.window.now) 0 49)
    (start-whole (window_costs 16 24 a.block.now a.window.now 4 4) 16 a.centre.y a.centre.x c.sad_int-start.ensures) in record { next = record { same = e; few = omega (arith, c.loop-k.invariant.0.within, c.loop-k.invariant.1) }; lies = subst (λ (b : Best). Lies 3 a.centre.y a.centre.x b.y b.x) (sym e) (full_pel_in-lies a.centre a.block.now a.window.now c.requires.roomy) }
