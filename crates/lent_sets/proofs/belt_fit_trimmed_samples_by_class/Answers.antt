-- `lent_sets::belt_fit_trimmed_samples_by_class`: the rows, or the trimmed fit of the gathered samples, given in numbers. Assumes nothing.
use mathlib.Core.Path.{refl, ap, ◌∙◌}
use Rattle.fit.specs.Sums.{itself}
use Rattle.fit.specs.Fitted.{no_type}
use Rattle.trim.specs.Trim.{trimmed_from}
use Rattle.trim_numbers.specs.Answer.{answer_of}
use Rattle.by_class.specs.ByClass.{refused_trim}
use Rattle.class_set.proofs.Front.{front-count, front-there}
use Rattle.lent_sets.proofs.Answers.{refused-by, lent-answered}
use Rattle.lent_sets.proofs.belt_fit_trimmed_samples_by_class.Goals as goal

pub returns-in-Err : goal.returns-in-Err
returns-in-Err c = let a = c.args in
    c.answer_of.ensures
    ∙ ap answer_of
    (refused-by (no_type a.kind) a.set a.samples.now a.classes.now c.no_type-wrong.ensures c.in-Err.refusal c.in-Err.ensures.judged
    c.number.ensures refused_trim (trimmed_from itself a.kind))

pub slice_bounds-room-end : goal.slice_bounds-room-end
slice_bounds-room-end c = front-there c.in-Ok.ensures.gathered

pub slice_bounds-trimmed_fit-end : goal.slice_bounds-trimmed_fit-end
slice_bounds-trimmed_fit-end c = front-count c.in-Ok.ensures.gathered

pub returns-in-Ok : goal.returns-in-Ok
returns-in-Ok c = let a = c.args in
    c.answer_of-in-Ok.ensures
    ∙ ap answer_of
    (lent-answered (no_type a.kind) a.set a.samples.now a.classes.now c.no_type-wrong.ensures c.in-Ok.ensures.judged
    refused_trim (trimmed_from itself a.kind) refl
    (c.trimmed_fit.ensures ∙ ap (trimmed_from itself a.kind) c.in-Ok.ensures.gathered.front))
