-- `job::finish`: the model's refusal decides, as in the definition.
-- Assumes nothing.
use mathlib.Core.Path.{refl}
use borrow.Author.Rules.{rules}
use Rattle.job.proofs.Ending.{finish-refused, finish-written}
use Rattle.job.proofs.finish.Goals as goal

pub model_of_named-requires : goal.model_of_named-requires
model_of_named-requires c = c.requires

pub returns-in-Err : goal.returns-in-Err
returns-in-Err c = let h = c.args.handed in
    finish-refused h.settings h.form h.types.now h.models.now h.prior.now c.args.words.now h.classes.now c.args.blocks.now c.args.header.now
    c.in-Err.ensures.answer c.in-Err.ensures.refused c.refused.ensures

pub returns-in-Ok : goal.returns-in-Ok
returns-in-Ok c = let h = c.args.handed in
    finish-written h.settings h.form h.types.now h.models.now h.prior.now c.args.words.now h.classes.now c.args.blocks.now c.args.header.now
    c.in-Ok.ensures.answer refl c.write_out.ensures
