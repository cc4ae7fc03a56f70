-- `by_class::score_by_class`: the rows' refusal, or the call over the named words in front of the buffer. Assumes nothing.
use mathlib.Core.Bool.{false}
use mathlib.Core.Path.{refl, sym, ◌∙◌}
use Rattle.score.specs.Score.{mean_sq_residual}
use Rattle.class_set.proofs.Front.{front-count, front-there}
use Rattle.by_class.specs.ByClass.{refused_score}
use Rattle.by_class.proofs.Rows.{call-passed, named-refused, call-accepted}
use Rattle.by_class.proofs.score_by_class.Goals as goal

pub returns-in-Err : goal.returns-in-Err
returns-in-Err c = let a = c.args in
    named-refused false a.set a.words.now a.classes.now refl c.in-Err.refusal c.in-Err.ensures c.number.ensures refused_score (mean_sq_residual a.params)

pub slice_bounds-choose-end : goal.slice_bounds-choose-end
slice_bounds-choose-end c = refl

pub choose-n-requires : goal.choose-n-requires
choose-n-requires c = let a = c.args in
    let p = call-passed false a.set a.words.now a.classes.now refl c.in-Ok.ensures refl in
    record { words_len = sym p.classed; words_in_bounds = p.few }

pub slice_bounds-named-end : goal.slice_bounds-named-end
slice_bounds-named-end c = front-there c.choose-n.ensures

pub slice_bounds-mean_sq_residual-end : goal.slice_bounds-mean_sq_residual-end
slice_bounds-mean_sq_residual-end c = front-count c.choose-n.ensures

pub returns-in-Ok : goal.returns-in-Ok
returns-in-Ok c = let a = c.args in
    c.mean_sq_residual.ensures ∙ call-accepted false a.set a.words.now a.classes.now refl c.in-Ok.ensures refused_score (mean_sq_residual a.params) refl c.choose-n.ensures
