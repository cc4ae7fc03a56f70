-- `judged_and_read`: the number of the first group of rows, or what is read where it is none.
-- Assumes nothing.
use mathlib.Core.Path.{sym, ◌∙◌}
use native.Mathlib.Omega.{arith}
use Rattle.std.proofs.lemmas.Result.{err_from_is_err_and}
use Rattle.refusal.proofs.Rows.{above-zero}
use Rattle.header_read.proofs.Answers.{refused, priors-ready, read-within}
use Rattle.header_read.proofs.judged_and_read.Goals as goal

pub returns-in_err-prior_refusal : goal.returns-in_err-prior_refusal
returns-in_err-prior_refusal c = let a = c.args in
    let p = err_from_is_err_and c.from_residual.result c.from_residual.ensures.1 in
    let r = c.in_err-prior_refusal in
    rw (p.1, p.2) (refused a.header.now a.at a.flag a.prior.now _ r.ensures (λ z. omega (arith, above-zero r.field-0.0, z)))

pub read_from-requires : goal.read_from-requires
read_from-requires c = priors-ready c.args.flag c.args.prior.now (sym c.in_ok-prior_refusal.ensures)

pub returns : goal.returns
returns c = let a = c.args in
    c.read_from.ensures ∙ read-within a.header.now a.at a.flag a.prior.now (sym c.in_ok-prior_refusal.ensures)
