-- `coarse_scan`: a start of 0 stays; another is followed by all rows of candidates.
-- Assumes nothing.
use mathlib.Core.Path.{sym, ap, ◌∙◌}
use Rattle.laws.specs.Loops.{run}
use Rattle.cost.specs.Inner.{window_costs}
use Rattle.stage.specs.declared.Best.{Best}
use Rattle.stage.specs.Inner.{coarse_turn, coarse_in}
use Rattle.stage.proofs.Turns.{start-whole}
use Rattle.stage.proofs.NoneWins.{coarse-idle}
use native.Mathlib.Omega.{arith}
use Rattle.coarse.proofs.coarse_scan.Goals as goal

pub returns-then-first-eq0 : goal.returns-then-first-eq0
unfolding coarse_in
returns-then-first-eq0 c = let a = c.args in
    let s = start-whole (window_costs 8 32 a.block.now a.window.now 12 12) 8 12 12 c.sad_half-start.ensures in
    record {
      same =
          c.idle.ensures
          ∙ (sym (coarse-idle a.block.now a.window.now (record { cost = c.sad_half-start.result.cost; y = 12; x = 12; rows = c.sad_half-start.result.rows }) c.if-first-eq0.true)
          ∙ ap (run (coarse_turn a.block.now a.window.now) 0 625) s);
      few = omega (arith, ap (λ (b : Best). b.rows) c.idle.ensures, c.sad_half-start.ensures.few);
    }

pub returns : goal.returns
unfolding coarse_in
returns c = let a = c.args in
    let s = start-whole (window_costs 8 32 a.block.now a.window.now 12 12) 8 12 12 c.sad_half-start.ensures in
    record {
      same = c.coarse_rows.ensures.same ∙ ap (run (coarse_turn a.block.now a.window.now) 0 625) s;
      few = omega (arith, c.coarse_rows.ensures.few, c.sad_half-start.ensures.few);
    }
