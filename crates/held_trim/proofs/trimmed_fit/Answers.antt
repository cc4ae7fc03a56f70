-- `held_trim::trimmed_fit`: rows 1, 4 and 15 answer by the count; otherwise the trim's answer is the call's.
-- Assumes nothing.
use Prim.Native.Nat.{ℕ}
use lib.ListN.{length}
use mathlib.Core.Path.{sym, ap, ◌∙◌}
use Rattle.fit.specs.declared.Fitted.TheVariants.{Refused}
use Rattle.fit.specs.Sums.{itself}
use Rattle.trim.specs.Trim.{trimmed_as, trimmed_from}
use native.Mathlib.Omega.{arith}
use Rattle.refusal.proofs.Rows.{above-zero}
use Rattle.trim.specs.Inner.{sample_at, up_to}
use Rattle.trim.proofs.Answers.{list-untrimmed, trimmed-refused, trimmed-accepted}
use Rattle.trim.proofs.Indices.{length-up_to, samples-whole}
use Rattle.trim.proofs.Mapped.{trimmed-mapped}
use Rattle.held_trim.proofs.trimmed_fit.Goals as goal

pub returns-in-Err : goal.returns-in-Err
returns-in-Err c = let a = c.args in
    let above = above-zero c.in-Err.refusal in
    let judged = c.in-Err.ensures in
    ap (λ (k : ℕ). trimmed_as (Refused k) 0) (c.number.ensures ∙ judged)
    ∙ trimmed-refused (sample_at a.samples.now) a.gm_type (up_to (length a.samples.now)) (length a.samples.now) (length-up_to (length a.samples.now)) (λ z. absurd (omega (arith, above, judged ∙ z)))
    ∙ sym (trimmed-mapped (sample_at a.samples.now) a.gm_type (up_to (length a.samples.now)))
    ∙ ap (trimmed_from itself a.gm_type) (samples-whole a.samples.now)

pub trim-cut-requires : goal.trim-cut-requires
trim-cut-requires c = let a = c.args in
    list-untrimmed a.gm_type (length a.samples.now) (sym c.in-Ok.ensures)

pub returns-in-Ok : goal.returns-in-Ok
returns-in-Ok c = let a = c.args in
    c.trim-cut.ensures.answers
    ∙ trimmed-accepted (sample_at a.samples.now) a.gm_type (up_to (length a.samples.now)) (length a.samples.now) (length-up_to (length a.samples.now))
    (sym c.in-Ok.ensures)
    ∙ sym (trimmed-mapped (sample_at a.samples.now) a.gm_type (up_to (length a.samples.now)))
    ∙ ap (trimmed_from itself a.gm_type) (samples-whole a.samples.now)
