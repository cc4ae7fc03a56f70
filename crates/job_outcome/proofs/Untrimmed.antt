-- A job that neither elects nor trims is the job without trimming, bit for bit: it is refused by the same rows, fits all named words, and reports and leaves the same.
-- Assumes nothing.
use mathlib.Core.Path.{◌≡◌, ◌∙◌}
use Rattle.job_task.specs.Task.{Task, Lent}
use Rattle.job_task.specs.Rows.{early}
use Rattle.job_outcome.specs.Outcome.{named, fit_words, fit_in, late, outcome}
use Rattle.job_outcome.proofs.AskedEnds as asked
use Rattle.job_outcome.proofs.UntrimmedEnds as untrimmed
use Rattle.job_outcome.proofs.Asked as asking
use Rattle.fit.specs.Fitted.{refusal_of}

module _ (j : Task) (asks : j.settings.elect ≡ 0) (plain : j.settings.trim ≡ 0) where
  pub words-of-fit : fit_words j ≡ named j
  words-of-fit = asking.words-of-fit j asks ∙ rw plain

  pub fit_is : fit_in j ≡ untrimmed.fit j
  fit_is = asking.fit_is j asks ∙ rw plain

  pub late_is : late j ≡ refusal_of (untrimmed.fit j)
  late_is = asking.late_is j asks ∙ rw plain

  module _ (l : Lent) where
    rows_are : asked.early j l ≡ untrimmed.early j l
    rows_are = rw plain

    pub early-is : early j l ≡ untrimmed.early j l
    early-is = asking.early-is j asks l ∙ rows_are

    plain-is : asked.outcome j l ≡ untrimmed.outcome j l
    plain-is = rw (rows_are, plain)

    pub as-untrimmed : outcome j l ≡ untrimmed.outcome j l
    as-untrimmed = asking.as-asked j asks l ∙ plain-is
