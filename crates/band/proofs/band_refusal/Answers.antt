-- `band_refusal`: the first group that refuses.
-- Assumes nothing.
use mathlib.Core.Path.{sym}
use Rattle.std.proofs.lemmas.Result.{err_from_is_err_and}
use Rattle.laws.proofs.Refusal.{quiet}
use Rattle.refusal.proofs.Rows.{first-refused}
use Rattle.search.proofs.Rows.{small}
use Rattle.band.specs.Call.{plane_rows, band_refusal}
use Rattle.band.proofs.band_refusal.Goals as goal

pub returns-in_err-planes_refusal : goal.returns-in_err-planes_refusal
unfolding band_refusal
returns-in_err-planes_refusal c = let p = err_from_is_err_and c.from_residual.result c.from_residual.ensures.1 in
    rw (p.1, p.2, sym c.in_err-planes_refusal.ensures) (first-refused _ _)

pub rows_refusal-requires : goal.rows_refusal-requires
rows_refusal-requires c = let s = c.args.sides in
    let has = c.args.has in
    let rows = plane_rows s.width s.height has.input has.reference has.input_half has.ref_half in
    small s.width s.height (quiet rows tt (sym c.in_ok-planes_refusal.ensures)).0

pub returns : goal.returns
unfolding band_refusal
returns c = rw (← c.in_ok-planes_refusal.ensures, ← c.rows_refusal.ensures)
