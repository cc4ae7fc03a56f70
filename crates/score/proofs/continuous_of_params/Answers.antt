-- `score::continuous_of_params`: each slot is read back from its bits.
-- Assumes nothing.
use mir.Syntax.{w32}
use native.Mathlib.Omega.{arith}
use Rattle.laws.proofs.Signed.{result-reads}
use Rattle.score.specs.Score.{slot, continuous_model}
use Rattle.score.proofs.continuous_of_params.Goals as goal

pub returns : goal.returns
unfolding continuous_model
returns c = let params = c.args.params in
    cc (
      rw (result-reads w32 (slot params 0) (omega arith)) at c.continuous_of.ensures,
      rw (result-reads w32 (slot params 1) (omega arith)) at c.continuous_of-2.ensures,
      rw (result-reads w32 (slot params 2) (omega arith)) at c.continuous_of-3.ensures,
      rw (result-reads w32 (slot params 3) (omega arith)) at c.continuous_of-4.ensures,
      rw (result-reads w32 (slot params 4) (omega arith)) at c.continuous_of-5.ensures,
      rw (result-reads w32 (slot params 5) (omega arith)) at c.continuous_of-6.ensures,
    )
