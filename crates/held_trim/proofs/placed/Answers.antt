-- `held_trim::placed`: the trim's own number; otherwise the last fit is on the grid.
-- Assumes nothing.
use Prim.Native.Nat.{ℕ}
use mathlib.Core.List.{List}
use mathlib.Core.Path.{sym, ap, ◌∙◌}
use lib.ListN.{length}
use Rattle.fit.specs.Sums.{itself}
use Rattle.trim.specs.Trim.{trimmed_as, trimmed_model_from}
use Rattle.trim.specs.Inner.{sample_at, up_to, refused_model}
use Rattle.trim.proofs.Answers.{model-few, model-untrimmed, model-fit-refused, quiet-trim, used-counted, model-accepted}
use Rattle.trim.proofs.Indices.{length-up_to, samples-whole}
use Rattle.trim.proofs.Mapped.{model-mapped}
use Rattle.held_trim.proofs.placed.Goals as goal

pub trim-cut-requires : goal.trim-cut-requires
trim-cut-requires c = let a = c.args in
    model-untrimmed a.gm_type a.flag (length a.samples.now) c.requires

pub returns-then-number-ne0 : goal.returns-then-number-ne0
returns-then-number-ne0 c = let a = c.args in
    let cut = c.trim-cut in
    let number = c.refusal_of-number in
    let listed = c.requires in
    c.refused_model.ensures
    ∙ ap (λ (k : ℕ). refused_model k) number.ensures
    ∙ model-fit-refused (sample_at a.samples.now) a.gm_type (up_to (length a.samples.now)) (length a.samples.now) (length-up_to (length a.samples.now)) a.flag listed
    (trimmed_as cut.result.fitted cut.result.used) cut.ensures.answers (λ z. c.if-number-ne0.true (number.ensures ∙ z))
    ∙ sym (model-mapped (sample_at a.samples.now) a.gm_type (up_to (length a.samples.now)) a.flag)
    ∙ ap (trimmed_model_from itself a.gm_type a.flag) (samples-whole a.samples.now)

pub on_grid-requires : goal.on_grid-requires
on_grid-requires c = let a = c.args in
    let cut = c.trim-cut in
    let listed = c.requires in
    let fitted = sym c.refusal_of-number.ensures ∙ c.if-number-ne0.false in
    let read = sample_at a.samples.now in
    let t = trimmed_as cut.result.fitted cut.result.used in
    record {
      few = model-few a.gm_type a.flag (length a.samples.now) listed;
      long = cut.ensures.long;
      counted =
          used-counted read a.gm_type (up_to (length a.samples.now)) (length a.samples.now) (length-up_to (length a.samples.now)) a.flag listed t cut.ensures.answers fitted
          ∙ ap (λ (l : List ℕ). length l)
          (sym (cut.ensures.within (quiet-trim read a.gm_type (up_to (length a.samples.now)) (length a.samples.now) (length-up_to (length a.samples.now)) a.flag listed t cut.ensures.answers fitted)));
    }

pub returns : goal.returns
returns c = let a = c.args in
    let cut = c.trim-cut in
    let listed = c.requires in
    let fitted = sym c.refusal_of-number.ensures ∙ c.if-number-ne0.false in
    let read = sample_at a.samples.now in
    let t = trimmed_as cut.result.fitted cut.result.used in
    c.on_grid.ensures
    ∙ model-accepted read a.gm_type (up_to (length a.samples.now)) (length a.samples.now) (length-up_to (length a.samples.now)) a.flag listed t cut.ensures.answers fitted _
    (cut.ensures.within (quiet-trim read a.gm_type (up_to (length a.samples.now)) (length a.samples.now) (length-up_to (length a.samples.now)) a.flag listed t cut.ensures.answers fitted))
    ∙ sym (model-mapped read a.gm_type (up_to (length a.samples.now)) a.flag)
    ∙ ap (trimmed_model_from itself a.gm_type a.flag) (samples-whole a.samples.now)
