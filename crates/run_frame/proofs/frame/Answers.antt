-- `run_frame::frame`: the first rows, then the plain call, then the prior's row; the run moves where none refuses.
-- Assumes nothing.
use mathlib.Core.List.{List}
use mathlib.Core.Path.{refl, sym, ap, ◌∙◌}
use native.Mathlib.Omega.{arith}
use lib.IntN.{ℤ}
use lib.ListN.{length}
use Rattle.refusal.proofs.Rows.{above-zero}
use Rattle.run.specs.Run.{run_of}
use Rattle.run_frame.proofs.Accepted.{numbers-there}
use Rattle.run_frame.proofs.Answers.{first-refused, plain-refuses, prior-refuses, frame-accepted}
use Rattle.run_frame.proofs.frame.Goals as goal

pub returns-in-Err : goal.returns-in-Err
returns-in-Err c = let a = c.args in
    let done = first-refused a.run a.intra a.types.now a.params.now a.start a.header.now c.number.result (c.number.ensures ∙ c.in-Err.ensures) (λ z. omega (arith, above-zero c.in-Err.refusal, c.number.ensures, z)) in
    record { value = c.not_framed.ensures ∙ done.answers; header_after = done.leaves }

pub returns-then-written-ne0 : goal.returns-then-written-ne0
returns-then-written-ne0 c = let a = c.args in
    let passed = sym c.in_default.ensures in
    let w = c.encode_global_motion-written in
    let done =
    plain-refuses a.run a.intra a.types.now a.params.now a.start a.header.now passed w.result _ w.ensures.value w.ensures.header_after w.result.refusal refl
    c.if-written-ne0.true in record { value = c.not_framed-then-written-ne0.ensures ∙ done.answers; header_after = done.leaves }

pub returns-then-priors_out : goal.returns-then-priors_out
returns-then-priors_out c = let a = c.args in
    let passed = sym c.in_default.ensures in
    let w = c.encode_global_motion-written in
    let done =
    prior-refuses a.run a.intra a.types.now a.params.now a.start a.header.now passed w.result _ w.ensures.value w.ensures.header_after c.if-written-ne0.false
    (sym c.if-priors_out.ensures) in record { value = (rw c.number-then-priors_out.ensures at c.not_framed-then-priors_out.ensures) ∙ done.answers; header_after = done.leaves }

pub prior_from-requires : goal.prior_from-requires
prior_from-requires c = numbers-there c.args.run (length c.args.types.now) (length c.args.params.now) (sym c.in_default.ensures)

pub returns : goal.returns
returns c = let a = c.args in
    let passed = sym c.in_default.ensures in
    let w = c.encode_global_motion-written in
    let next = c.step_to-next.ensures ∙ ap (λ (prior : List ℤ). run_of prior a.run.flag a.run.form) c.prior_from.ensures in
    let done =
    frame-accepted a.run a.intra a.types.now a.params.now a.start a.header.now passed w.result _ w.ensures.value w.ensures.header_after c.if-written-ne0.false
    (sym c.if-priors_out.ensures) c.step_to-next.result next in record { value = done.answers; header_after = done.leaves }
