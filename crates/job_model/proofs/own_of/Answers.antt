-- `job_model::own_of`: the elect code chooses the way, as in the definition.
-- Assumes nothing.
use mathlib.Core.Path.{sym, ◌∙◌}
use borrow.Author.Rules.{rules}
use Rattle.job_model.proofs.Electing.{election-answers}
use Rattle.job_model.proofs.own_of.Goals as goal

pub returns-then-elects : goal.returns-then-elects
returns-then-elects c = election-answers c.args.settings c.args.words.now c.requires (sym c.elects.ensures ∙ c.if-elects.true) c.elect.ensures

pub asked-requires : goal.asked-requires
asked-requires c = record { fitting = c.requires; asks = sym c.elects.ensures ∙ c.if-elects.false }

pub returns : goal.returns
returns c = c.asked.ensures
