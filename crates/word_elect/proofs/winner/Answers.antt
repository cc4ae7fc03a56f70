-- `word_elect::winner`: below the floor nobody is asked; otherwise the three types take their turns, and what ends one ends the election.
-- Assumes nothing.
use Rattle.std.proofs.Common.{◌≡◌, ℕ, List, sym, ap, ◌∙◌, arith}
use Rattle.std.proofs.lemmas.Result.{err_from_is_err_and}
use lib.IntN.{ℤ}
use lib.Ieee.{Float, lt}
use Rattle.fit.specs.Sums.{itself}
use Rattle.refusal.specs.declared.Refusal.{Refusal}
use Rattle.refusal.specs.Number.{number_of}
use Rattle.refusal.proofs.Rows.{above-zero}
use Rattle.sample.specs.declared.MotionSample.{MotionSample}
use Rattle.elect.specs.Elect.{floor, error_from, nobody, stopped, turn}
use Rattle.elect.proofs.Turns.{winner-still, three-turns, turn-ended}
use Rattle.word_elect.proofs.winner.Goals as goal

-- what has ended the election is handed on
ended : (flag : ℕ) (xs : List MotionSample) (energy : Float) (gm_type : ℕ) (r : Refusal) → stopped (number_of r) ≡ turn itself flag xs energy (stopped (number_of r)) gm_type
ended flag xs energy gm_type r =
    turn-ended itself flag xs energy (stopped (number_of r)) gm_type (λ e. let h = above-zero r in omega (arith, h, e))

pub returns-then-energy : goal.returns-then-energy
returns-then-energy g c = let xs = g.L.Electorate.samples c.args.list in
    let energy = c.error_of-energy.ensures ∙ ap (λ (p : List ℤ). error_from itself p xs) c.identity_params.ensures in
    c.nobody-nobody.ensures ∙ ap (λ (e : Float). nobody e) energy ∙ sym (winner-still itself c.args.flag xs (ap (λ (e : Float). lt e floor) (sym energy) ∙ c.if-energy.true))

pub returns-in_err-first : goal.returns-in_err-first
returns-in_err-first g c = let xs = g.L.Electorate.samples c.args.list in
    let still = c.error_of-energy in
    let energy = still.ensures ∙ ap (λ (p : List ℤ). error_from itself p xs) c.identity_params.ensures in
    let p = err_from_is_err_and c.from_residual.result c.from_residual.ensures.1 in
    rw (p.1, p.2)
    (three-turns itself c.args.flag xs still.result energy c.if-energy.false c.nobody-nobody.ensures c.in_err-first.ensures.answer
    (ended c.args.flag xs still.result 2 _) (ended c.args.flag xs still.result 3 _))

pub returns-in_err-second : goal.returns-in_err-second
returns-in_err-second g c = let xs = g.L.Electorate.samples c.args.list in
    let still = c.error_of-energy in
    let energy = still.ensures ∙ ap (λ (p : List ℤ). error_from itself p xs) c.identity_params.ensures in
    let p = err_from_is_err_and c.from_residual-in_err-second.result c.from_residual-in_err-second.ensures.1 in
    rw (p.1, p.2)
    (three-turns itself c.args.flag xs still.result energy c.if-energy.false c.nobody-nobody.ensures c.in_ok-first.ensures.answer c.in_err-second.ensures.answer
    (ended c.args.flag xs still.result 3 _))

pub returns : goal.returns
returns g c = let xs = g.L.Electorate.samples c.args.list in
    let still = c.error_of-energy in
    let energy = still.ensures ∙ ap (λ (p : List ℤ). error_from itself p xs) c.identity_params.ensures in
    three-turns itself c.args.flag xs still.result energy c.if-energy.false c.nobody-nobody.ensures c.in_ok-first.ensures.answer c.in_ok-second.ensures.answer c.turn-3.ensures.answer
