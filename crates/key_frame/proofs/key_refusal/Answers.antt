-- `key_refusal`: the first group that refuses answers; the first group's lengths give the second what it asks for.
-- Assumes nothing.
use mathlib.Core.Path.{sym}
use Rattle.std.proofs.lemmas.Result.{err_from_is_err_and}
use Rattle.refusal.proofs.Rows.{first-refused}
use Rattle.key_frame.specs.Key.{key_refusal}
use Rattle.key_frame.proofs.Enough.{numbers-enough}
use Rattle.key_frame.proofs.key_refusal.Goals as goal

pub returns-in_err-key_code_refusal : goal.returns-in_err-key_code_refusal
unfolding key_refusal
returns-in_err-key_code_refusal c = let p = err_from_is_err_and c.from_residual.result c.from_residual.ensures.1 in
    rw (p.1, p.2, sym c.in_err-key_code_refusal.ensures) (first-refused _ _)

pub key_model_refusal-requires : goal.key_model_refusal-requires
key_model_refusal-requires c = let a = c.args in
    numbers-enough a.types.now a.params.now a.flag (sym c.in_ok-key_code_refusal.ensures)
