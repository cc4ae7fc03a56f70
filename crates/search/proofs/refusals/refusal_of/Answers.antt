-- `refusal_of`: the first group that refuses.
-- Assumes nothing.
use mathlib.Core.Path.{sym}
use Rattle.std.proofs.lemmas.Result.{err_from_is_err_and}
use Rattle.laws.proofs.Refusal.{quiet}
use Rattle.refusal.proofs.Rows.{first-refused}
use Rattle.search.specs.Refusal.{input_rows, verdict}
use Rattle.search.proofs.Rows.{small}
use Rattle.search.proofs.refusals.refusal_of.Goals as goal

pub returns-in_err-unfit : goal.returns-in_err-unfit
unfolding verdict
returns-in_err-unfit c = let p = err_from_is_err_and c.from_residual.result c.from_residual.ensures.1 in
    rw (p.1, p.2, sym c.in_err-unfit.ensures) (first-refused _ _)

pub cramped-requires : goal.cramped-requires
cramped-requires c = let a = c.args in
    let s = a.sides in
    small s.width s.height (quiet (input_rows s.width s.height a.input a.reference a.classes.now) tt (sym c.in_ok-unfit.ensures)).0

pub returns : goal.returns
unfolding verdict
returns c = rw (← c.in_ok-unfit.ensures, ← c.cramped.ensures)
