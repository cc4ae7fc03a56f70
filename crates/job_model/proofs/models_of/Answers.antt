-- `job_model::models_of`: the refusal of the job's own model decides, as in the definition.
-- Assumes nothing.
use mathlib.Core.Path.{◌∙◌}
use borrow.Author.Rules.{rules}
use Rattle.job_model.proofs.Composed.{refused-as, accepted-as}
use Rattle.job_model.proofs.models_of.Goals as goal

pub own_of-own-requires : goal.own_of-own-requires
own_of-own-requires c = c.requires.fitting

pub returns-then-own-ne0 : goal.returns-then-own-ne0
returns-then-own-ne0 c = let a = c.args in record {
  answer = refused-as a.settings a.types.now a.models.now a.words.now c.own_of-own.ensures c.if-own-ne0.true;
  refused = c.if-own-ne0.true;
}

pub with_model-requires : goal.with_model-requires
with_model-requires c = let r = c.requires.fitting.range in record {
  six = c.requires.six;
  numbers = c.requires.numbers;
  reference = record { least = r.some_reference; most = r.last_reference };
}

pub returns : goal.returns
returns c = let a = c.args in record {
  answer = c.with_model.ensures ∙ accepted-as a.settings a.types.now a.models.now a.words.now c.own_of-own.ensures c.if-own-ne0.false;
  refused = tt;
}
