-- `held_trim::refit_under`: model, flag and linear part stay as they begin, so the sums alone are walked; the walk ends with the quantized model of the samples under the limit.
-- Assumes nothing.
use lib.ListN.{length}
use Prim.Native.Nat.{ℕ}
use mathlib.Core.List.{List}
use mathlib.Core.Path.{sym, ap, ◌∙◌}
use Rattle.laws.specs.Loops.{fold}
use Rattle.sample.specs.declared.MotionSample.{MotionSample}
use Rattle.fit.specs.Sums.{reading}
use Rattle.fit.specs.declared.Fitted.{Fitted}
use Rattle.fit.specs.declared.TranslationSums.{TranslationSums}
use Rattle.quantize.specs.declared.Refitting.{Refitting}
use Rattle.quantize.specs.Inner.{refit_step, refitting_begun, refitting_step, refitting_ends}
use Rattle.quantize.proofs.Walked.{walk_ends, sums_apart}
use Rattle.trim.specs.Inner.{sample_at, under}
use Rattle.held_trim.proofs.refit_under.Goals as goal

-- as it begins, with these sums
abbrev refitting_of : Fitted → ℕ → Refitting → TranslationSums → Refitting
refitting_of f flag t s = record { fitted = f; flag = flag; linear = t.linear; m = t.m; sums = s }

-- the sums over a list, from those that it begins with
abbrev sums_over : (ℕ → MotionSample) → List ℕ → Refitting → TranslationSums
sums_over read xs t = fold (reading (refit_step t.m) read) xs t.sums

pub returns : goal.returns
returns c = let a = c.args in
    let kept = under a.squares.now a.limit (length a.samples.now) in
    let read = sample_at a.samples.now in
    let begin = c.refit_begin-begun in
    let begun = begin.result in
    c.refit_ends.ensures
    ∙ ap (λ (s : TranslationSums). refitting_ends (refitting_of a.fitted a.flag begun s) a.used) c.left_under-sums.ensures
    ∙ ap (λ (t : Refitting). refitting_ends (refitting_of a.fitted a.flag t (sums_over read kept t)) a.used) begin.ensures
    ∙ ap (λ (t : Refitting). refitting_ends t a.used) (sym (sums_apart read kept (refitting_begun a.fitted a.flag)))
    ∙ ap (λ (k : ℕ). refitting_ends (fold (reading refitting_step read) kept (refitting_begun a.fitted a.flag)) k) c.requires.counted
    ∙ walk_ends read a.fitted a.flag kept
