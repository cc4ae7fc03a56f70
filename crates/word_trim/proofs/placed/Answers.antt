-- `word_trim::placed`: the trim's own number, or the last fit on the grid, over the words in front.
-- Assumes nothing.
use Prim.Native.Nat.{ℕ}
use mathlib.Core.Path.{refl, sym, ap, ◌∙◌}
use native.Mathlib.Omega.{arith}
use lib.ListN.{length}
use Rattle.sample.specs.Sample.{sample_of}
use Rattle.trim.specs.Inner.{refused_model}
use Rattle.trim.proofs.Answers.{model-few, model-fit-refused, quiet-trim, used-few, model-accepted}
use Rattle.word_trim.proofs.Rounds.{front-count, front-model, model-asked}
use Rattle.word_trim.proofs.placed.Goals as goal

pub trimmed-last-requires : goal.trimmed-last-requires
trimmed-last-requires c = let a = c.args in
    let p = c.requires in
    model-asked a.gm_type (length a.words.now) a.squares.now a.kept.now p.long p.room a.flag p.passes

pub returns-then-number-ne0 : goal.returns-then-number-ne0
returns-then-number-ne0 c = let a = c.args in
    let last = c.trimmed-last in
    let number = c.refusal_of-number in
    c.refused_model.ensures
    ∙ ap (λ (k : ℕ). refused_model k) number.ensures
    ∙ model-fit-refused sample_of a.gm_type a.words.now (length a.words.now) refl a.flag c.requires.passes last.result last.ensures.answers
    (λ z. c.if-number-ne0.true (number.ensures ∙ z))

pub slice_bounds-on_grid-end : goal.slice_bounds-on_grid-end
slice_bounds-on_grid-end c = let a = c.args in
    let last = c.trimmed-last in
    let quiet = quiet-trim sample_of a.gm_type a.words.now (length a.words.now) refl a.flag c.requires.passes last.result last.ensures.answers (sym c.refusal_of-number.ensures ∙ c.if-number-ne0.false) in
    omega (arith, (last.ensures.within quiet).counted, used-few sample_of a.gm_type a.words.now, last.ensures.room)

pub slice_bounds-on_grid-end-2 : goal.slice_bounds-on_grid-end-2
slice_bounds-on_grid-end-2 c = let a = c.args in
    let last = c.trimmed-last in
    let quiet = quiet-trim sample_of a.gm_type a.words.now (length a.words.now) refl a.flag c.requires.passes last.result last.ensures.answers (sym c.refusal_of-number.ensures ∙ c.if-number-ne0.false) in
    front-count (last.ensures.within quiet)

pub on_grid-requires : goal.on_grid-requires
on_grid-requires c = let a = c.args in
    let last = c.trimmed-last in
    let quiet = quiet-trim sample_of a.gm_type a.words.now (length a.words.now) refl a.flag c.requires.passes last.result last.ensures.answers (sym c.refusal_of-number.ensures ∙ c.if-number-ne0.false) in
    let few = model-few a.gm_type a.flag (length a.words.now) c.requires.passes in
    let there = last.ensures.within quiet in
    omega (arith, front-count there, there.counted, used-few sample_of a.gm_type a.words.now, few)

pub returns : goal.returns
returns c = let a = c.args in
    let last = c.trimmed-last in
    let fitted = sym c.refusal_of-number.ensures ∙ c.if-number-ne0.false in
    let quiet = quiet-trim sample_of a.gm_type a.words.now (length a.words.now) refl a.flag c.requires.passes last.result last.ensures.answers fitted in
    front-model last.result a.flag (last.ensures.within quiet) c.on_grid.ensures
    ∙ model-accepted sample_of a.gm_type a.words.now (length a.words.now) refl a.flag c.requires.passes last.result last.ensures.answers fitted _ refl
