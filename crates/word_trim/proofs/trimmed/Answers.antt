-- `word_trim::trimmed`: the first fit takes every word, and where it isn't refused each word's square is known to the second.
-- Assumes nothing.
use mathlib.Core.Path.{sym, ◌∙◌}
use Rattle.word_trim.proofs.Rounds.{refused-first, measured}
use Rattle.word_trim.proofs.trimmed.Goals as goal

pub returns-then-number-ne0 : goal.returns-then-number-ne0
returns-then-number-ne0 c = let a = c.args in
    let first = c.fit_model-first in
    let number = c.refusal_of-number in
    rw (c.refused_trim.ensures, number.ensures)
    (refused-first a.gm_type a.words.now a.squares.now a.kept.now c.requires first.result first.ensures (λ z. c.if-number-ne0.true (number.ensures ∙ z)))

pub residuals-requires : goal.residuals-requires
residuals-requires c = c.requires.long

pub second-requires : goal.second-requires
second-requires c = let a = c.args in
    let first = c.fit_model-first in
    measured a.gm_type a.words.now a.squares.now a.kept.now c.requires first.result first.ensures (sym c.refusal_of-number.ensures ∙ c.if-number-ne0.false)
    _ c.residuals.ensures

pub returns : goal.returns
returns c = c.second.ensures
