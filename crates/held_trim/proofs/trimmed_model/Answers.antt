-- `held_trim::trimmed_model`: rows 1, 4 and 15 answer by the count and the flag, then the trim's own number; otherwise the last fit is on the grid.
-- Assumes nothing.
use Prim.Native.Nat.{ℕ}
use mathlib.Core.Path.{sym, ap, ◌∙◌}
use lib.ListN.{length}
use Rattle.fit.specs.Sums.{itself}
use Rattle.trim.specs.Trim.{trimmed_model_from}
use native.Mathlib.Omega.{arith}
use Rattle.refusal.proofs.Rows.{above-zero}
use Rattle.trim.specs.Inner.{sample_at, up_to, refused_model}
use Rattle.trim.proofs.Answers.{model-refused}
use Rattle.trim.proofs.Indices.{length-up_to, samples-whole}
use Rattle.trim.proofs.Mapped.{model-mapped}
use Rattle.held_trim.proofs.trimmed_model.Goals as goal

pub returns-in-Err : goal.returns-in-Err
returns-in-Err c = let a = c.args in
    let above = above-zero c.in-Err.refusal in
    let judged = c.in-Err.ensures in
    c.refused_model.ensures
    ∙ ap (λ (k : ℕ). refused_model k) (c.number.ensures ∙ judged)
    ∙ model-refused (sample_at a.samples.now) a.gm_type (up_to (length a.samples.now)) (length a.samples.now) (length-up_to (length a.samples.now)) a.flag (λ z. absurd (omega (arith, above, judged ∙ z)))
    ∙ sym (model-mapped (sample_at a.samples.now) a.gm_type (up_to (length a.samples.now)) a.flag)
    ∙ ap (trimmed_model_from itself a.gm_type a.flag) (samples-whole a.samples.now)

pub placed-requires : goal.placed-requires
placed-requires c = sym c.in-Ok.ensures
