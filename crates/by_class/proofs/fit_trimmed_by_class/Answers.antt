-- `by_class::fit_trimmed_by_class`: the rows' refusal, or the call over the named words in front of the buffer. Assumes nothing.
use mathlib.Core.Path.{refl, sym, ◌∙◌}
use Rattle.sample.specs.Sample.{sample_of}
use Rattle.fit.specs.Fitted.{no_type}
use Rattle.trim.specs.Trim.{trimmed_from}
use Rattle.class_set.proofs.Front.{front-count, front-there}
use Rattle.by_class.specs.ByClass.{refused_trim}
use Rattle.by_class.proofs.Rows.{call-passed, named-refused, call-accepted}
use Rattle.by_class.proofs.fit_trimmed_by_class.Goals as goal

pub returns-in-Err : goal.returns-in-Err
returns-in-Err c = let a = c.args in
    named-refused (no_type a.gm_type) a.set a.words.now a.classes.now c.no_type.ensures c.in-Err.refusal c.in-Err.ensures c.number.ensures refused_trim (trimmed_from sample_of a.gm_type)

pub slice_bounds-choose-end : goal.slice_bounds-choose-end
slice_bounds-choose-end c = refl

pub choose-n-requires : goal.choose-n-requires
choose-n-requires c = let a = c.args in
    let p = call-passed (no_type a.gm_type) a.set a.words.now a.classes.now c.no_type.ensures c.in-Ok.ensures refl in
    record { words_len = sym p.classed; words_in_bounds = p.few }

pub slice_bounds-named-end : goal.slice_bounds-named-end
slice_bounds-named-end c = front-there c.choose-n.ensures

pub slice_bounds-fit_trimmed-end : goal.slice_bounds-fit_trimmed-end
slice_bounds-fit_trimmed-end c = front-count c.choose-n.ensures

pub returns-in-Ok : goal.returns-in-Ok
returns-in-Ok c = let a = c.args in
    c.fit_trimmed.ensures ∙ call-accepted (no_type a.gm_type) a.set a.words.now a.classes.now c.no_type.ensures c.in-Ok.ensures refused_trim (trimmed_from sample_of a.gm_type) refl c.choose-n.ensures
