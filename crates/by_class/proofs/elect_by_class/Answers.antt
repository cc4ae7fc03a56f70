-- `by_class::elect_by_class`: the rows' refusal, or the call over the named words in front of the buffer. Assumes nothing.
use mathlib.Core.Path.{refl, sym, ◌∙◌}
use lib.Dec.{ltb}
use Rattle.sample.specs.Sample.{sample_of}
use Rattle.elect.specs.Elect.{stopped, elected_from}
use Rattle.class_set.proofs.Front.{front-count, front-there}
use Rattle.by_class.proofs.Rows.{call-passed, named-refused, call-accepted}
use Rattle.by_class.proofs.elect_by_class.Goals as goal

pub returns-in-Err : goal.returns-in-Err
returns-in-Err c = let a = c.args in
    c.stopped.ensures ∙ named-refused (ltb 1 a.flag) a.set a.words.now a.classes.now refl c.in-Err.refusal c.in-Err.ensures c.number.ensures stopped (elected_from sample_of a.flag)

pub slice_bounds-choose-end : goal.slice_bounds-choose-end
slice_bounds-choose-end c = refl

pub choose-n-requires : goal.choose-n-requires
choose-n-requires c = let a = c.args in
    let p = call-passed (ltb 1 a.flag) a.set a.words.now a.classes.now refl c.in-Ok.ensures refl in
    record { words_len = sym p.classed; words_in_bounds = p.few }

pub slice_bounds-named-end : goal.slice_bounds-named-end
slice_bounds-named-end c = front-there c.choose-n.ensures

pub slice_bounds-elect-end : goal.slice_bounds-elect-end
slice_bounds-elect-end c = front-count c.choose-n.ensures

pub returns-in-Ok : goal.returns-in-Ok
returns-in-Ok c = let a = c.args in
    c.elect.ensures ∙ call-accepted (ltb 1 a.flag) a.set a.words.now a.classes.now refl c.in-Ok.ensures stopped (elected_from sample_of a.flag) refl c.choose-n.ensures
