-- `lent_sets::belt_elect_samples_by_class`: the rows, or the election over the gathered samples. Assumes nothing.
use mathlib.Core.Path.{refl, ap, ◌∙◌}
use lib.Dec.{ltb}
use Rattle.fit.specs.Sums.{itself}
use Rattle.elect.specs.Elect.{stopped, elected_from}
use Rattle.class_set.proofs.Front.{front-count, front-there}
use Rattle.lent_sets.proofs.Answers.{refused-by, lent-answered}
use Rattle.lent_sets.proofs.belt_elect_samples_by_class.Goals as goal

pub returns-in-Err : goal.returns-in-Err
returns-in-Err c = let a = c.args in
    c.stopped.ensures
    ∙ refused-by (ltb 1 a.flag) a.set a.samples.now a.classes.now refl c.in-Err.refusal c.in-Err.ensures.judged
    c.number.ensures stopped (elected_from itself a.flag)

pub slice_bounds-room-end : goal.slice_bounds-room-end
slice_bounds-room-end c = front-there c.in-Ok.ensures.gathered

pub slice_bounds-elected_in-end : goal.slice_bounds-elected_in-end
slice_bounds-elected_in-end c = front-count c.in-Ok.ensures.gathered

pub returns-in-Ok : goal.returns-in-Ok
returns-in-Ok c = let a = c.args in
    c.elected_in.ensures
    ∙ lent-answered (ltb 1 a.flag) a.set a.samples.now a.classes.now refl c.in-Ok.ensures.judged
    stopped (elected_from itself a.flag) refl (ap (elected_from itself a.flag) c.in-Ok.ensures.gathered.front)
