-- `word_elect::turn`: each return is a case of the definition, in its order.
-- Assumes nothing.
use Rattle.std.proofs.Common.{◌≡◌, Bool, true, false, refl, sym, ◌∙◌}
use Rattle.laws.specs.Refusal.{choose}
use Rattle.fit.specs.Sums.{itself}
use Rattle.elect.specs.declared.Elected.{Elected}
use Rattle.elect.specs.Elect.{held_after}
use Rattle.elect.proofs.Turns.{turn-stops, turn-passes, turn-unfit, turn-judged}
use Rattle.word_elect.proofs.turn.Goals.{then-candidate-ne0-via-then-candidate-ne0, then-candidate-ne0-via-else-candidate-ne0+then-unfit}
use Rattle.word_elect.proofs.turn.Goals as goal

pub returns-then-candidate-number-clause-answer : goal.returns-then-candidate-number-clause-answer
returns-then-candidate-number-clause-answer g c = let a = c.args in
    let m = c.candidate-candidate in
    turn-stops itself a.flag (g.L.Electorate.samples a.list) a.energy a.held a.gm_type c.requires.running m.result m.ensures (c.if-candidate-number.true ∙ c.number.ensures)

pub returns-then-candidate-ne0-clause-answer : goal.returns-then-candidate-ne0-clause-answer
returns-then-candidate-ne0-clause-answer g c = let a = c.args in
    let m = c.candidate-candidate in
    let xs = g.L.Electorate.samples a.list in
    elim c.then-candidate-ne0.branch [
      | then-candidate-ne0-via-then-candidate-ne0 w ↦ turn-passes itself a.flag xs a.energy a.held a.gm_type c.requires.running m.result m.ensures (λ e. c.if-candidate-number.false (e ∙ sym c.number.ensures)) w.if-candidate-ne0.true
      | then-candidate-ne0-via-else-candidate-ne0+then-unfit w ↦ turn-unfit itself a.flag xs a.energy a.held a.gm_type c.requires.running m.result m.ensures w.if-candidate-ne0.false (sym w.unfit.ensures ∙ w.if-unfit.true)
    ]

pub returns-clause-answer : goal.returns-clause-answer
returns-clause-answer g c = let a = c.args in
    let m = c.candidate-candidate in
    c.held_after.ensures
    ∙ turn-judged itself a.flag (g.L.Electorate.samples a.list) a.energy a.held a.gm_type c.requires.running m.result m.ensures c.if-candidate-ne0.false
    (sym c.unfit.ensures ∙ c.if-unfit.false) c.error_of-err.result c.error_of-err.ensures

either-runs : (b d : Bool) (h e : Elected) → h.refusal ≡ 0 → e.refusal ≡ 0 → (choose b h (choose d e h)).refusal ≡ 0
either-runs true d h e p q = p
either-runs false true h e p q = q
either-runs false false h e p q = p

pub returns-clause-running : goal.returns-clause-running
unfolding held_after
returns-clause-running g c = rw c.held_after.ensures (either-runs _ _ _ _ c.requires.running refl)
