-- `word_trim::residuals`: each turn writes the next word's square.
-- Assumes nothing.
use Prim.Native.Nat.{ℕ, ◌≤◌}
use mathlib.Core.Path.{◌≡◌}
use lib.ListN.{length, get_or}
use lib.Ieee.{Float}
use Rattle.laws.specs.Buffer.{onto}
use Rattle.laws.specs.Parts.{listing}
use Rattle.sample.specs.Sample.{sample_of}
use Rattle.score.specs.declared.ContinuousModel.{ContinuousModel}
use Rattle.score.specs.Score.{residual_of}
use Rattle.word_trim.proofs.residuals.Given as goal

-- the square of a word's sample
abbrev pub square_by : ContinuousModel → ℕ → Float
square_by m w = residual_of m (sample_of w)

abbrev pub invariant-loop-i : goal.invariant-loop-i
invariant-loop-i l = (l.i ≤ length l.words) × (l.squares ≡ onto (listing (λ k. square_by l.m (get_or l.words k 0)) l.i) l.initial.squares) × (length l.squares ≡ length l.initial.squares)
