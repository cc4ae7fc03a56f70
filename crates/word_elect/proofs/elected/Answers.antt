-- `word_elect::elected`: rows 1 and 4 answer by the count and the flag, and what they let pass isn't too long.
-- Assumes nothing.
use Rattle.std.proofs.Common.{◌≤◌, length, sym, ap, ◌∙◌, arith}
use Rattle.laws.proofs.Call.{answered-refused}
use Rattle.laws.proofs.Refusal.{or-else-quiet}
use Rattle.refusal.proofs.Rows.{above-zero}
use Rattle.sample.specs.Word.{most_samples}
use Rattle.fit.specs.Sums.{itself}
use Rattle.fit.specs.Fitted.{list_refusal}
use Rattle.fit.proofs.Accepted.{list-few}
use Rattle.trim.specs.Trim.{flag_refusal}
use Rattle.elect.specs.Elect.{stopped, elect_refusal, as_stored, winner_from}
use Rattle.word_elect.proofs.elected.Goals as goal

pub winner-requires : goal.winner-requires
winner-requires g c = let n = c.count.result in
    let few : n ≤ most_samples = list-few n (or-else-quiet (list_refusal n) (flag_refusal c.args.flag) (sym c.in-Ok.ensures)).0 in
    omega (arith, few, c.count.ensures)

pub returns-in-Err : goal.returns-in-Err
returns-in-Err g c = let a = c.args in
    let xs = g.L.Electorate.samples a.list in
    let above = above-zero c.in-Err.refusal in
    let judged = c.in-Err.ensures ∙ ap (elect_refusal a.flag) c.count.ensures in
    c.stopped.ensures
    ∙ ap stopped (c.number.ensures ∙ judged)
    ∙ sym (answered-refused stopped (elect_refusal a.flag (length xs)) (as_stored (winner_from itself a.flag xs)) (λ z. absurd (omega (arith, above, judged ∙ z))))
