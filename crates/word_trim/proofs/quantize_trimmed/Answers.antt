-- `word_trim::quantize_trimmed`: rows 1, 4 and 15 answer by the count and the flag.
-- Assumes nothing.
use Prim.Native.Nat.{ℕ}
use mathlib.Core.Path.{refl, sym, ap, ◌∙◌}
use native.Mathlib.Omega.{arith}
use lib.ListN.{length}
use Rattle.refusal.proofs.Rows.{above-zero}
use Rattle.sample.specs.Sample.{sample_of}
use Rattle.trim.specs.Inner.{refused_model}
use Rattle.trim.proofs.Answers.{model-refused}
use Rattle.word_trim.proofs.quantize_trimmed.Goals as goal

pub returns-in-Err : goal.returns-in-Err
returns-in-Err c = let a = c.args in
    let above = above-zero c.in-Err.refusal in
    let judged = c.in-Err.ensures in
    c.refused_model.ensures
    ∙ ap (λ (k : ℕ). refused_model k) (c.number.ensures ∙ judged)
    ∙ model-refused sample_of a.gm_type a.words.now (length a.words.now) refl a.flag (λ z. absurd (omega (arith, above, judged ∙ z)))

pub place_in_room-requires : goal.place_in_room-requires
place_in_room-requires c = sym c.in-Ok.ensures
