-- `run_job::job_of_words_in_run`: the contract of a job of words, with the run's prior, flag and form; the run after it is the definition's.
-- Assumes nothing.
use mathlib.Core.Path.{refl}
use borrow.Author.Rules.{rules}
use Rattle.run_job.specs.Words.{AskedOf, asked_of}
use Rattle.run_job.proofs.Ending.{words-flagged}
use Rattle.run_job.proofs.job_of_words_in_run.Goals as goal

pub returns : goal.returns
returns c = let a = c.args in
    let j : AskedOf = asked_of a.words.now a.settings a.classes.now a.types.now a.models.now in
    rw (c.stepped.ensures.same, c.stepped.ensures.run_after)
    (record { job = words-flagged a.run j a.blocks.now a.header.now c.with_flag.ensures c.job_of_words_in-report.ensures; run = refl })
