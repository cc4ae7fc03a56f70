-- `Header::refusal`: the first group that refuses answers; the quiet ones before it give the later ones what they ask for.
-- Assumes nothing.
use mathlib.Core.Path.{sym}
use Rattle.std.proofs.lemmas.Result.{err_from_is_err_and}
use Rattle.refusal.proofs.Rows.{first-refused}
use Rattle.header.specs.Writing.{write_refusal}
use Rattle.header.proofs.Accepted.{seven-models, start-low, ready-to-write}
use Rattle.header.proofs.Header.refusal.Goals as goal

pub returns-in_err-code_refusal : goal.returns-in_err-code_refusal
unfolding write_refusal
returns-in_err-code_refusal c = let p = err_from_is_err_and c.from_residual.result c.from_residual.ensures.1 in
    rw (p.1, p.2, sym c.in_err-code_refusal.ensures) (first-refused _ _)

pub model_refusal-requires : goal.model_refusal-requires
model_refusal-requires c = let h = c.args.self in
    seven-models h.types.now h.params.now h.flag h.prior.now (sym c.in_ok-code_refusal.ensures)

pub returns-in_err-model_refusal : goal.returns-in_err-model_refusal
unfolding write_refusal
returns-in_err-model_refusal c = let r = c.from_residual-in_err-model_refusal in
    let p = err_from_is_err_and r.result r.ensures.1 in
    rw (p.1, p.2, sym c.in_ok-code_refusal.ensures, sym c.in_err-model_refusal.ensures) (first-refused _ _)

pub room_refusal-requires : goal.room_refusal-requires
room_refusal-requires c = let h = c.args.self in
    let codes = sym c.in_ok-code_refusal.ensures in
    let handed = sym c.in_ok-model_refusal.ensures in
    (ready-to-write h.types.now h.params.now h.flag h.prior.now c.args.start codes handed, start-low h.types.now h.params.now h.flag h.prior.now c.args.start handed)

pub returns : goal.returns
unfolding write_refusal
returns c = rw (sym c.in_ok-code_refusal.ensures, sym c.in_ok-model_refusal.ensures) c.room_refusal.ensures
