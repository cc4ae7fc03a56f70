-- `solve::solve_linear`: a refused elimination has no unknowns, and a solved one those of its last system.
-- Assumes nothing.
use Rattle.std.proofs.lemmas.Result.{err_from_is_err_and}
use Rattle.solve.proofs.solve_linear.Goals as goal

pub returns-in_err-eliminate : goal.returns-in_err-eliminate
returns-in_err-eliminate c = let gone = c.eliminate.ensures in
    let is = c.in_err-eliminate.was in
    let handed = err_from_is_err_and c.from_residual.result c.from_residual.ensures.1 in
    record { answer = rw (handed.1, ← gone, is); system_after = rw (handed.1, ← gone, is) }

pub returns : goal.returns
returns c = let gone = c.eliminate.ensures in
    let is = c.in_ok-eliminate.was in
    record { answer = rw (← gone, is, c.back_substitute.ensures); system_after = rw (← gone, is) }
