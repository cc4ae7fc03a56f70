-- `job_model::trimmed`: of the call's answer all but the count of samples is the job's.
-- Assumes nothing.
use borrow.Author.Rules.{rules}
use Rattle.job_model.proofs.Own.{trimmed-answers}
use Rattle.job_model.proofs.trimmed.Goals as goal

pub returns : goal.returns
returns c = trimmed-answers c.args.settings c.args.words.now c.requires.asking c.requires.trimming c.quantize_trimmed-t.ensures
