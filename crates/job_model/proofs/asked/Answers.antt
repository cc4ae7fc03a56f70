-- `job_model::asked`: the refusal of the fit on the grid decides; an accepted one is scored, and stored row first.
-- Assumes nothing.
use mathlib.Core.Path.{◌∙◌}
use borrow.Author.Rules.{rules}
use Rattle.job_model.proofs.Composed.{asked-refused, asked-accepted}
use Rattle.job_model.proofs.asked.Goals as goal

pub on_grid-fitted-requires : goal.on_grid-fitted-requires
on_grid-fitted-requires c = c.requires

pub returns-then-fitted-ne0 : goal.returns-then-fitted-ne0
returns-then-fitted-ne0 c = c.stopped.ensures
    ∙ asked-refused c.args.settings c.args.words.now c.requires.asks c.on_grid-fitted.ensures c.if-fitted-ne0.true

pub returns : goal.returns
returns c = asked-accepted c.args.settings c.args.words.now c.requires.asks c.on_grid-fitted.ensures c.if-fitted-ne0.false
    c.row_first-stored.ensures c.mean_sq_residual-score.ensures
