-- `held_trim::trim`: the first fit takes every sample, and where it isn't refused each sample's square is known to the second.
-- Assumes nothing.
use lib.ListN.{length}
use mathlib.Core.Path.{sym, ◌∙◌}
use Rattle.trim.specs.Inner.{sample_at, up_to}
use Rattle.trim.proofs.Answers.{first-refused}
use Rattle.trim.proofs.Cuts.{refused-cuts}
use Rattle.held_trim.proofs.FirstFit.{room, all-under-nought, first-is, squared}
use Rattle.held_trim.proofs.trim.Goals as goal

pub fit_under-first-requires : goal.fit_under-first-requires
fit_under-first-requires c = let s = c.before in
    let a = s.args in
    all-under-nought a.samples.now a.gm_type (length a.samples.now) a.squares.now s.requires

pub returns-then-number-ne0 : goal.returns-then-number-ne0
returns-then-number-ne0 c = let s = c.before in
    let a = s.args in
    let first = c.fit_under-first in
    let number = c.refusal_of-number in
    let is = first-is a.samples.now a.gm_type (length a.samples.now) a.squares.now s.requires first.result first.ensures in
    rw c.refused_cut.ensures
    (refused-cuts a.samples.now a.gm_type (length a.samples.now) a.squares.now number.result (room a.samples.now a.gm_type (length a.samples.now) a.squares.now s.requires) c.if-number-ne0.true
    (first-refused (sample_at a.samples.now) a.gm_type (up_to (length a.samples.now)) first.result is (λ z. c.if-number-ne0.true (number.ensures ∙ z)) ∙ sym number.ensures))

pub residuals-requires : goal.residuals-requires
residuals-requires c = let s = c.before in
    let a = s.args in
    (s.requires.few, room a.samples.now a.gm_type (length a.samples.now) a.squares.now s.requires)

pub second-requires : goal.second-requires
second-requires c = let s = c.before in
    let a = s.args in
    let first = c.fit_under-first in
    let number = c.refusal_of-number in
    squared a.samples.now a.gm_type (length a.samples.now) a.squares.now s.requires first.result first.ensures
    (sym number.ensures ∙ c.if-number-ne0.false) _ c.residuals.ensures

pub returns : goal.returns
returns c = c.second.ensures
