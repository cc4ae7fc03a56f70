use Prim.Native.Nat.{◌+◌}
use mathlib.Core.Path.{◌≡◌, sym, ap, subst, ◌∙◌}
use Rattle.blend.specs.Inner.{window_from}
use Rattle.stage.specs.declared.Best.{Best}
use Rattle.stage.specs.Inner.{step_in, Lies}
use Rattle.stage.proofs.Turns.{begins, goes_on, ends}
use Rattle.stage.proofs.Reach.{step_in-lies}
use Rattle.stage.proofs.NoneWins.{step-idle}
use native.Mathlib.Omega.{arith}
use Rattle.eighths_steps.proofs.eighths_step.Goals as goal

pub returns-then-start-eq0 : goal.returns-then-start-eq0
returns-then-start-eq0 c = let a = c.args in
    let w = window_from a.highs.now a.lows.now in
    let e : c.idle.result ≡ step_in a.corner a.step a.block.now w a.start =
    c.idle.ensures ∙ sym (step-idle a.block.now w a.corner a.step a.start c.if-start-eq0.true) in record { next = record { same = e; few = omega (arith, ap (λ (b : Best). b.rows) c.idle.ensures) }; lies = subst (λ (b : Best). Lies a.step a.start.y a.start.x b.y b.x) (sym e) (step_in-lies a.corner a.step a.block.now w a.start c.requires.roomy c.requires.steady) }

pub loop-k-init : goal.loop-k-init
loop-k-init c = (begins _ _ _ _ _ (omega arith) (omega arith), omega arith)

pub eighths_candidate-best-requires : goal.eighths_candidate-best-requires
eighths_candidate-best-requires c = record { fine_bytes = c.requires.fine_bytes; roomy = c.requires.roomy; steady = c.requires.steady; k_bound = (c.loop-k-test.true, omega (arith, c.loop-k.invariant.0.within, c.loop-k.invariant.1, c.requires.rows_bound)) }

pub loop-k-preserved : goal.loop-k-preserved
loop-k-preserved c = (
  goes_on (c.loop-k.k + 1) c.loop-k.invariant.0 c.loop-k-test.true (omega arith) c.eighths_candidate-best.ensures.same,
  omega (arith, c.eighths_candidate-best.ensures.few, c.loop-k.invariant.1),
)

pub returns : goal.returns
unfolding step_in
returns c = let a = c.args in
    let w = window_from a.highs.now a.lows.now in
    let e : c.loop-k.best ≡ step_in a.corner a.step a.block.now w a.start = ends c.loop-k.invariant.0 (omega arith) in record { next = record { same = e; few = omega (arith, c.loop-k.invariant.0.within, c.loop-k.invariant.1) }; lies = subst (λ (b : Best). Lies a.step a.start.y a.start.x b.y b.x) (sym e) (step_in-lies a.corner a.step a.block.now w a.start c.requires.roomy c.requires.steady) }
