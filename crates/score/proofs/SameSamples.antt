-- Lists that are read as the same samples have the same score.
-- Assumes nothing.
use Prim.Native.Nat.{ℕ}
use mathlib.Core.List.{List}
use mathlib.Core.Path.{◌≡◌, ap, ◌∙◌}
use lib.IntN.{ℤ}
use lib.ListN.{length}
use lib.Ieee.{Float}
use Rattle.laws.specs.Loops.{fold}
use Rattle.laws.specs.Binary64.{nought}
use Rattle.sample.specs.Sample.{sample_of}
use Rattle.fit.specs.Sums.{reading}
use Rattle.fit.proofs.SameSamples.{SameSamples, same_length, same_fold}
use Rattle.score.specs.Score.{continuous_model, score_step, score_of, mean_sq_residual}

pub same-score : {ws vs : List ℕ} → SameSamples ws vs → (p : List ℤ) → mean_sq_residual p ws ≡ mean_sq_residual p vs
same-score {ws} {vs} same p =
    ap (λ (n : ℕ). score_of (fold (reading (score_step (continuous_model p)) sample_of) ws nought) n) (same_length same)
    ∙ ap (λ (acc : Float). score_of acc (length vs)) (same_fold same (score_step (continuous_model p)) nought)
