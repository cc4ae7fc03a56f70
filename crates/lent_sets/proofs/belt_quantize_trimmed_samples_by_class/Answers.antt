-- `lent_sets::belt_quantize_trimmed_samples_by_class`: the rows, or the trimmed model of the gathered samples. Assumes nothing.
use mathlib.Core.Path.{refl, ap, ◌∙◌}
use Rattle.fit.specs.Sums.{itself}
use Rattle.trim.specs.Trim.{trimmed_model_from}
use Rattle.class_rows.specs.Rows.{no_type_or_flag, refused_trimmed_model}
use Rattle.class_set.proofs.Front.{front-count, front-there}
use Rattle.lent_sets.proofs.Answers.{refused-by, lent-answered}
use Rattle.lent_sets.proofs.belt_quantize_trimmed_samples_by_class.Goals as goal

pub returns-in-Err : goal.returns-in-Err
returns-in-Err c = let a = c.args in
    let kind = a.codes.kind in
    let flag = a.codes.flag in
    c.refused_trimmed_model.ensures
    ∙ refused-by (no_type_or_flag kind flag) a.set a.samples.now a.classes.now c.no_type_or_flag-wrong.ensures c.in-Err.refusal c.in-Err.ensures.judged
    c.number.ensures refused_trimmed_model (trimmed_model_from itself kind flag)

pub slice_bounds-room-end : goal.slice_bounds-room-end
slice_bounds-room-end c = front-there c.in-Ok.ensures.gathered

pub slice_bounds-trimmed_model-end : goal.slice_bounds-trimmed_model-end
slice_bounds-trimmed_model-end c = front-count c.in-Ok.ensures.gathered

pub returns-in-Ok : goal.returns-in-Ok
returns-in-Ok c = let a = c.args in
    let kind = a.codes.kind in
    let flag = a.codes.flag in
    c.trimmed_model.ensures
    ∙ lent-answered (no_type_or_flag kind flag) a.set a.samples.now a.classes.now c.no_type_or_flag-wrong.ensures c.in-Ok.ensures.judged
    refused_trimmed_model (trimmed_model_from itself kind flag) refl
    (ap (trimmed_model_from itself kind flag) c.in-Ok.ensures.gathered.front)
