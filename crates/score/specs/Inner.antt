-- What the functions below the public calls ask and answer; no public contract cites it.
-- Assumes nothing.
use Rattle.std.specs.Prelude.{ℕ, List, Float}
use Rattle.laws.specs.Loops.{fold}
use Rattle.laws.specs.Binary64.{nought}
use Rattle.sample.specs.Sample.{sample_of}
use Rattle.fit.specs.Sums.{reading}
use Rattle.score.specs.declared.ContinuousModel.{ContinuousModel}
use Rattle.score.specs.Score.{score_step}

-- the squared residuals of a list of words, added
unfoldable pub residual_sum : ContinuousModel → List ℕ → Float
residual_sum m ws = fold (reading (score_step m) sample_of) ws nought
