-- `lent_sets::judge`: the rows' refusal, or the named samples where there is none. Assumes nothing.
use mathlib.Core.Path.{refl, sym}
use native.Mathlib.Omega.{arith}
use Rattle.std.proofs.lemmas.Result.{err_from_is_err_and}
use Rattle.lent_sets.proofs.Answers.{lent-passed}
use Rattle.lent_sets.proofs.judge.Goals as goal

pub gather-requires : goal.gather-requires
gather-requires c =
    let a = c.args in
    let p = lent-passed a.wrong a.set a.samples.now a.classes.now refl c.in_ok-set_refusal.ensures refl in
    record { samples_len = sym p.classed; room = omega (arith, p.few, c.requires) }

pub returns-in_err-set_refusal : goal.returns-in_err-set_refusal
returns-in_err-set_refusal c =
    let p = err_from_is_err_and c.from_residual.result c.from_residual.ensures.1 in
    rw (p.1, p.2) (record { judged = c.in_err-set_refusal.ensures; gathered = tt })

pub returns : goal.returns
returns c = record { judged = c.in_ok-set_refusal.ensures; gathered = c.gather.ensures }
