-- `word_trim::fit_trimmed`: rows 1, 4 and 15 answer by the count.
-- Assumes nothing.
use Prim.Native.Nat.{ℕ}
use mathlib.Core.Path.{refl, sym, ap, ◌∙◌}
use native.Mathlib.Omega.{arith}
use lib.ListN.{length}
use Rattle.refusal.proofs.Rows.{above-zero}
use Rattle.sample.specs.Sample.{sample_of}
use Rattle.trim.proofs.Answers.{trimmed-refused}
use Rattle.word_trim.specs.Inner.{refused_trim}
use Rattle.word_trim.proofs.fit_trimmed.Goals as goal

pub returns-in-Err : goal.returns-in-Err
returns-in-Err c = let a = c.args in
    let above = above-zero c.in-Err.refusal in
    let judged = c.in-Err.ensures in
    c.refused_trim.ensures
    ∙ ap (λ (k : ℕ). refused_trim k) (c.number.ensures ∙ judged)
    ∙ trimmed-refused sample_of a.gm_type a.words.now (length a.words.now) refl (λ z. absurd (omega (arith, above, judged ∙ z)))

pub fit_in_room-requires : goal.fit_in_room-requires
fit_in_room-requires c = sym c.in-Ok.ensures
