-- `lent_sets::belt_quantize_samples_by_class`: the rows, or the model on the grid, refitted over the named samples. Assumes nothing.
use mathlib.Core.Path.{refl, sym, ap, ◌∙◌}
use Rattle.fit.specs.declared.Fitted.{Fitted}
use Rattle.fit.specs.Sums.{itself}
use Rattle.fit_numbers.specs.Numbers.{fitted_of}
use Rattle.quantize.specs.Quantize.{refused_model, quantized_from}
use Rattle.quantize.specs.Inner.{refitting_begun}
use Rattle.class_rows.specs.Rows.{no_model_or_flag}
use Rattle.lent_sets.proofs.Answers.{lent-passed, refused-by, lent-answered, model-named}
use Rattle.lent_sets.proofs.belt_quantize_samples_by_class.Goals as goal

pub returns-in-Err : goal.returns-in-Err
returns-in-Err c = let a = c.args in
    let f = fitted_of a.model.kind a.model.numbers in
    let flag = a.model.flag in
    c.refused_model.ensures
    ∙ refused-by (no_model_or_flag f flag) a.set a.samples.now a.classes.now
    (c.no_model_or_flag-wrong.ensures ∙ ap (λ (g : Fitted). no_model_or_flag g flag) c.fitted_of-fitted.ensures) c.in-Err.refusal c.in-Err.ensures
    c.number.ensures refused_model (quantized_from itself f flag)

pub refit_named-t-requires : goal.refit_named-t-requires
refit_named-t-requires c = let a = c.args in
    let f = fitted_of a.model.kind a.model.numbers in
    let flag = a.model.flag in
    let p = lent-passed (no_model_or_flag f flag) a.set a.samples.now a.classes.now
    (c.no_model_or_flag-wrong.ensures ∙ ap (λ (g : Fitted). no_model_or_flag g flag) c.fitted_of-fitted.ensures) c.in-Ok.ensures
    refl in
    sym p.classed

pub returns-in-Ok : goal.returns-in-Ok
returns-in-Ok c = let a = c.args in
    let f = fitted_of a.model.kind a.model.numbers in
    let flag = a.model.flag in
    let w = c.no_model_or_flag-wrong.ensures ∙ ap (λ (g : Fitted). no_model_or_flag g flag) c.fitted_of-fitted.ensures in
    let p = lent-passed (no_model_or_flag f flag) a.set a.samples.now a.classes.now w c.in-Ok.ensures refl in
    lent-answered (no_model_or_flag f flag) a.set a.samples.now a.classes.now w c.in-Ok.ensures
    refused_model (quantized_from itself f flag) refl
    (c.refit_ends.ensures
    ∙ model-named a.set a.samples.now a.classes.now (sym p.classed) c.count_named.ensures f flag
    c.refit_named-t.ensures (c.refit_begin-begun.ensures ∙ ap (λ (g : Fitted). refitting_begun g flag) c.fitted_of-fitted.ensures))
