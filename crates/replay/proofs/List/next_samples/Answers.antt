-- `List::next_samples`: what is written out has an item, so that as many come as are asked for.
-- Assumes nothing.
use Rattle.std.proofs.Common.{rules, ◌≡◌, ◌<◌, vec_len, length, ap, ◌∙◌, arith}
use Rattle.std.specs.Iterator.Adapters.{copied_source, copied_steps, cycle_start}
use Rattle.std.specs.Slice.Iter.{iter_rest, iter_steps}
use Rattle.replay.proofs.Rounds.{length-collected, copies-end}
use Rattle.replay.proofs.List.next_samples.Goals.{then-is_empty+in_ok-push, else-is_empty}
use Rattle.replay.proofs.List.next_samples.Goals as goal

pub returns : goal.returns
returns c =
    let filled : 0 < vec_len c.if-is_empty.listed = elim c.if-is_empty.branch [ then-is_empty+in_ok-push w ↦ search rules | else-is_empty w ↦ search rules ] in
    let start = ap cycle_start c.take.ensures.source ∙ c.cycle.ensures.start in
    let listed = ap iter_rest (ap copied_source start ∙ c.copied.ensures.source) ∙ c.iter.ensures.rest in
    length-collected (copied_steps iter_steps) (λ s r. iter_rest (copied_source r) ≡ iter_rest (copied_source s)) c.take.result c.collect.result c.args.count c.collect.ensures.ran
    (λ j k w e. absurd (omega (arith, filled, c.deref.ensures.len, ap length (w ∙ listed), copies-end e.0 (copied_source j) (copied_source k) e.1 e.2)))
    c.take.ensures.count
