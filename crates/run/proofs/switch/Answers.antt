-- `run::switch`: the run as it was where a row holds, otherwise the run switched.
-- Assumes nothing.
use mathlib.Core.Path.{refl, ap, ◌∙◌}
use native.Mathlib.Omega.{arith}
use Rattle.refusal.proofs.Rows.{above-zero}
use Rattle.run.specs.Run.{moved}
use Rattle.run.proofs.Moves.{switch-refused, switch-accepted}
use Rattle.run.proofs.switch.Goals as goal

pub returns-in-Ok : goal.returns-in-Ok
returns-in-Ok c = let a = c.args in
    ap (moved 0) c.switched_to-next.ensures ∙ switch-accepted a.run a.code _ c.in-Ok.ensures refl

pub returns-in-Err : goal.returns-in-Err
returns-in-Err c = let a = c.args in
    switch-refused a.run a.code _ (c.number.ensures ∙ c.in-Err.ensures) (λ z. omega (arith, above-zero c.in-Err.refusal, c.number.ensures, z))
