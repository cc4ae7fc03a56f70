-- `job_model::with_model`: types and models are assembled as in the definition.
-- Assumes nothing.
use Rattle.job_model.proofs.with_model.Goals as goal

pub types_with-types-requires : goal.types_with-types-requires
types_with-types-requires c = (c.requires.six, c.requires.reference)

pub models_with-models-requires : goal.models_with-models-requires
models_with-models-requires c = (c.requires.numbers, c.requires.reference)

pub returns : goal.returns
returns c = rw (c.types_with-types.ensures, c.models_with-models.ensures)
