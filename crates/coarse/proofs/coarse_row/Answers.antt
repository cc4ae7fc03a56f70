-- `coarse_row`: three times eight candidates and one more are the 25 of a dy; none of the eights has the start in it.
-- Assumes nothing.
use Prim.Native.Nat.{ℕ, ◌+◌, ◌*◌}
use mathlib.Core.Path.{◌≡◌, ap, ◌∙◌}
use Rattle.laws.specs.Loops.{run}
use Rattle.stage.specs.Inner.{coarse_turn}
use Rattle.stage.proofs.Turns.{begins, goes_on, goes-far, ends}
use native.Mathlib.Omega.{arith}
use Rattle.coarse.proofs.coarse_row.Goals as goal

pub coarse_ones-requires : goal.coarse_ones-requires
coarse_ones-requires c = record { coarse = c.requires.coarse; y_bound = (c.requires.y_bound, omega arith); to_bound = (omega arith, omega (arith, c.requires.rows_bound, c.requires.y_bound)) }

pub returns-then-y-eq-COARSE_BIAS : goal.returns-then-y-eq-COARSE_BIAS
returns-then-y-eq-COARSE_BIAS c = let a = c.args in
    record {
      same =
          c.coarse_ones.ensures.same
          ∙ ap (λ (k : ℕ). run (coarse_turn a.block.now a.window.now) k (a.y * 25 + 25) a.start) (let e : a.y * 25 + 0 ≡ a.y * 25 = omega arith in e);
      few = omega (arith, c.coarse_ones.ensures.few);
    }

pub coarse_eight-left-requires : goal.coarse_eight-left-requires
coarse_eight-left-requires c = record { coarse = c.requires.coarse; spread = c.requires.spread; beside = record { row = c.requires.y_bound; columns = omega arith; apart = c.if-y-eq-COARSE_BIAS.false }; rows_bound = omega (arith, c.requires.rows_bound, c.requires.y_bound) }

pub coarse_eight-middle-requires : goal.coarse_eight-middle-requires
coarse_eight-middle-requires c = record { coarse = c.requires.coarse; spread = c.requires.spread; beside = record { row = c.requires.y_bound; columns = omega arith; apart = c.if-y-eq-COARSE_BIAS.false }; rows_bound = omega (arith, c.coarse_eight-left.ensures.few, c.requires.rows_bound, c.requires.y_bound) }

pub coarse_eight-right-requires : goal.coarse_eight-right-requires
coarse_eight-right-requires c = record { coarse = c.requires.coarse; spread = c.requires.spread; beside = record { row = c.requires.y_bound; columns = omega arith; apart = c.if-y-eq-COARSE_BIAS.false }; rows_bound = omega (arith, c.coarse_eight-middle.ensures.few, c.coarse_eight-left.ensures.few, c.requires.rows_bound, c.requires.y_bound) }

pub coarse_candidate-requires : goal.coarse_candidate-requires
coarse_candidate-requires c = record { coarse = c.requires.coarse; y_bound = (c.requires.y_bound, omega arith); rows_bound = omega (arith, c.coarse_eight-right.ensures.few, c.coarse_eight-middle.ensures.few, c.coarse_eight-left.ensures.few, c.requires.rows_bound, c.requires.y_bound) }

pub returns : goal.returns
returns c = let a = c.args in
    let y = a.y in
    let t0 = begins (coarse_turn a.block.now a.window.now) (y * 25) (y * 25 + 25) (y * 25 + 0) a.start (omega arith) (omega arith) in
    let t1 = goes-far (y * 25 + 8) t0 (omega arith) (omega arith) c.coarse_eight-left.ensures.same in
    let t2 = goes-far (y * 25 + 16) t1 (omega arith) (omega arith) c.coarse_eight-middle.ensures.same in
    let t3 = goes-far (y * 25 + 24) t2 (omega arith) (omega arith) c.coarse_eight-right.ensures.same in
    let t4 = goes_on (y * 25 + 25) t3 (omega arith) (omega arith) c.coarse_candidate.ensures.same in
    record {
      same = ends t4 (omega arith);
      few = omega (arith, c.coarse_candidate.ensures.few, c.coarse_eight-right.ensures.few, c.coarse_eight-middle.ensures.few, c.coarse_eight-left.ensures.few);
    }
