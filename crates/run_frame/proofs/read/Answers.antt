-- `run_frame::read`: the run's rows, then the plain call; the run moves where neither refuses.
-- Assumes nothing.
use mathlib.Core.Path.{sym, ap, ◌∙◌}
use native.Mathlib.Omega.{arith}
use borrow.Author.Rules.{rules}
use Rattle.refusal.proofs.Rows.{above-zero}
use Rattle.header_read.specs.declared.Models.{Models}
use Rattle.run_frame.proofs.Answers.{read-refused, plain-refused, plain-read}
use Rattle.run_frame.proofs.read.Goals as goal

pub returns-in-Err : goal.returns-in-Err
returns-in-Err c = let a = c.args in
    ap (λ (m : Models). record { models = m; run = a.run }) c.no_models-models.ensures
    ∙ read-refused a.run a.header.now a.at a.intra _ (c.number.ensures ∙ c.in-Err.ensures) (λ z. omega (arith, above-zero c.in-Err.refusal, c.number.ensures, z))

pub returns-then-models-ne0 : goal.returns-then-models-ne0
returns-then-models-ne0 c = let entry = c.before in
    let a = entry.args in
    let m = c.read_global_motion-models in
    plain-refused a.run a.header.now a.at a.intra (search (rules, c.well_formed.0)) (sym entry.in_default.ensures) m.result m.ensures c.if-models-ne0.true

pub returns : goal.returns
returns c = let entry = c.before in
    let a = entry.args in
    let m = c.read_global_motion-models in
    plain-read a.run a.header.now a.at a.intra (search (rules, c.well_formed.0)) (sym entry.in_default.ensures) m.result m.ensures
    c.if-models-ne0.false c.step_to-next.result c.step_to-next.ensures
