-- `job_model::untrimmed`: the fit's refusal decides; an accepted fit is put on the grid.
-- Assumes nothing.
use borrow.Author.Rules.{rules}
use Rattle.job_model.proofs.Own.{refused-answers, accepted-answers}
use Rattle.job_model.proofs.untrimmed.Goals as goal

pub returns-then-refusal-ne0 : goal.returns-then-refusal-ne0
returns-then-refusal-ne0 c = refused-answers c.args.settings c.args.words.now c.requires.asking c.requires.trimming c.fit_model-fitted.ensures c.refusal_of-refusal.ensures c.if-refusal-ne0.true

pub returns : goal.returns
returns c = accepted-answers c.args.settings c.args.words.now c.requires.asking c.requires.trimming c.fit_model-fitted.ensures
    c.refusal_of-refusal.ensures c.if-refusal-ne0.false c.quantize_model.ensures
