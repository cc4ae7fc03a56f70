-- `by_class::quantize_by_class`: the rows' refusal, or the call over the named words in front of the buffer. Assumes nothing.
use mathlib.Core.Path.{refl, sym, ◌∙◌}
use Rattle.quantize.specs.Quantize.{refused_model, quantized_model}
use Rattle.class_set.proofs.Front.{front-count, front-there}
use Rattle.class_rows.specs.Rows.{no_model_or_flag}
use Rattle.by_class.proofs.Rows.{call-passed, named-refused, call-accepted}
use Rattle.by_class.proofs.quantize_by_class.Goals as goal

pub returns-in-Err : goal.returns-in-Err
returns-in-Err c = let a = c.args in
    c.refused_model.ensures ∙ named-refused (no_model_or_flag a.fitted a.flag) a.set a.words.now a.classes.now c.no_model_or_flag.ensures c.in-Err.refusal c.in-Err.ensures c.number.ensures refused_model (quantized_model a.fitted a.flag)

pub slice_bounds-choose-end : goal.slice_bounds-choose-end
slice_bounds-choose-end c = refl

pub choose-n-requires : goal.choose-n-requires
choose-n-requires c = let a = c.args in
    let p = call-passed (no_model_or_flag a.fitted a.flag) a.set a.words.now a.classes.now c.no_model_or_flag.ensures c.in-Ok.ensures refl in
    record { words_len = sym p.classed; words_in_bounds = p.few }

pub slice_bounds-named-end : goal.slice_bounds-named-end
slice_bounds-named-end c = front-there c.choose-n.ensures

pub slice_bounds-quantize_model-end : goal.slice_bounds-quantize_model-end
slice_bounds-quantize_model-end c = front-count c.choose-n.ensures

pub returns-in-Ok : goal.returns-in-Ok
returns-in-Ok c = let a = c.args in
    c.quantize_model.ensures ∙ call-accepted (no_model_or_flag a.fitted a.flag) a.set a.words.now a.classes.now c.no_model_or_flag.ensures c.in-Ok.ensures refused_model (quantized_model a.fitted a.flag) refl c.choose-n.ensures
