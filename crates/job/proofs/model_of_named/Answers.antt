-- `job::model_of_named`: what `choose` left at the front are the named words, and the model is theirs.
-- Assumes nothing.
use mathlib.Core.List.{List}
use mathlib.Core.Path.{ap, ◌∙◌}
use Prim.Native.Nat.{ℕ}
use borrow.Author.Rules.{rules}
use Rattle.class_set.proofs.Front.{front-count, front-there}
use Rattle.job_model.specs.Modelled.{modelled}
use Rattle.job.proofs.model_of_named.Goals as goal

pub slice_bounds-named-end : goal.slice_bounds-named-end
slice_bounds-named-end c = front-there c.choose-n.ensures

pub slice_bounds-models_of-end : goal.slice_bounds-models_of-end
slice_bounds-models_of-end c = front-count c.choose-n.ensures

pub models_of-requires : goal.models_of-requires
models_of-requires c = rw c.choose-n.ensures.front c.requires.modelling

pub returns : goal.returns
returns c = let h = c.args.handed in record {
  answer = c.models_of.ensures.answer ∙ ap (λ (ws : List ℕ). modelled h.settings h.types.now h.models.now ws) c.choose-n.ensures.front;
  refused = c.models_of.ensures.refused;
}
