-- A job that doesn't elect is the job without elections, bit for bit: it is refused by the same rows, fits the type asked for, and reports and leaves the same.
-- Assumes nothing.
use mathlib.Core.Path.{◌≡◌}
use Rattle.job_task.specs.Task.{Task, Lent}
use Rattle.job_task.specs.Rows.{refusal_before, early}
use Rattle.job_outcome.specs.Outcome.{fit_words, fit_in, late, outcome}
use Rattle.job_outcome.proofs.AskedEnds as asked

module _ (j : Task) (asks : j.settings.elect ≡ 0) where
  pub words-of-fit : fit_words j ≡ asked.fit_words j
  words-of-fit = rw asks

  pub fit_is : fit_in j ≡ asked.fit j
  fit_is = rw asks

  pub late_is : late j ≡ asked.late j
  late_is = rw asks

  module _ (l : Lent) where
    pub early-is : early j l ≡ asked.early j l
    unfolding refusal_before
    early-is = rw asks

    pub as-asked : outcome j l ≡ asked.outcome j l
    unfolding outcome
    as-asked = rw (early-is, asks)
