-- `run::start`: zeros where a code is wrong, otherwise identities with the flag and the form.
-- Assumes nothing.
use mathlib.Core.List.{List}
use mathlib.Core.Path.{sym, ap, ◌∙◌}
use lib.IntN.{ℤ}
use Rattle.run.specs.Run.{run_of, moved}
use Rattle.run.proofs.Moves.{start-refused, start-accepted}
use Rattle.run.proofs.start.Goals as goal

pub returns-then-codes_wrong : goal.returns-then-codes_wrong
returns-then-codes_wrong c = let a = c.args in
    rw (c.no_run-run.ensures, c.number.ensures) (start-refused a.flag a.form (sym c.codes_wrong.ensures ∙ c.if-codes_wrong.true))

pub returns : goal.returns
returns c = let a = c.args in
    ap (λ (prior : List ℤ). moved 0 (run_of prior a.flag a.form)) c.seven_identities-prior.ensures
    ∙ start-accepted a.flag a.form (sym c.codes_wrong.ensures ∙ c.if-codes_wrong.false)
