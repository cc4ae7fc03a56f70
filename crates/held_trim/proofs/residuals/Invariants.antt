-- `held_trim::residuals`: each turn writes the next sample's square.
-- Assumes nothing.
use Prim.Native.Nat.{ℕ, ◌≤◌}
use mathlib.Core.List.{List}
use mathlib.Core.Path.{◌≡◌}
use lib.ListN.{length}
use lib.Ieee.{Float}
use Rattle.laws.specs.Buffer.{onto}
use Rattle.laws.specs.Parts.{listing}
use Rattle.sample.specs.declared.MotionSample.{MotionSample}
use Rattle.score.specs.declared.ContinuousModel.{ContinuousModel}
use Rattle.score.specs.Score.{residual_of}
use Rattle.trim.specs.Inner.{sample_at}
use Rattle.held_trim.proofs.residuals.Given as goal

-- the square of sample k
abbrev pub square_by : ContinuousModel → List MotionSample → ℕ → Float
square_by m given k = residual_of m (sample_at given k)

abbrev pub invariant-loop-i : goal.invariant-loop-i
invariant-loop-i l = (l.i ≤ (length l.samples)) × (l.squares ≡ onto (listing (square_by l.m l.samples) l.i) l.initial.squares) × (length l.squares ≡ length l.initial.squares)
