-- `lent_sets::fit_named`: the fits are those of the sums over the named samples, which are few enough.
-- Assumes nothing.
use borrow.Author.Rules.{rules}
use borrow.Author.Tests.{ne_eqb}
use Prim.Native.Nat.{ℕ, ◌≤◌}
use mathlib.Core.List.{List}
use mathlib.Core.Path.{◌≡◌, ◌∙◌}
use native.Mathlib.Omega.{arith}
use lib.ListN.{length}
use lib.Ieee.{Float}
use Rattle.sample.specs.Word.{most_samples}
use Rattle.class_set.specs.Set.{named_count}
use Rattle.fit.specs.Fitted.{translation_from, rot_zoom_from, affine_from}
use Rattle.named_samples.specs.Named.{named_samples}
use Rattle.lent_sets.proofs.Answers.{count-named, few-named}
use Rattle.lent_sets.proofs.fit_named.Goals as goal

counted : (set : ℕ) (fours : List (List Float)) (cs : List ℕ) → length fours ≡ length cs → {n : ℕ} → n ≡ named_count set cs → n ≡ length (named_samples set fours cs)
counted set fours cs same k = k ∙ count-named set fours cs same

few : (set : ℕ) (fours : List (List Float)) (cs : List ℕ) → length fours ≡ length cs → length fours ≤ most_samples → {n : ℕ} → n ≡ named_count set cs → n ≤ most_samples
few set fours cs same short k = omega (arith, counted set fours cs same k, few-named set fours cs short)

pub fit-requires : goal.fit-requires
fit-requires c = let a = c.args in few a.set a.samples.now a.classes.now c.requires.samples_len c.requires.samples_len_bound c.count_named-n.ensures

pub returns-in-1 : goal.returns-in-1
unfolding translation_from
returns-in-1 c = let a = c.args in
    let count = counted a.set a.samples.now a.classes.now c.requires.samples_len c.count_named-n.ensures in
    rw (c.in-1.is, ← c.sums_named.ensures, ← count) c.fit.ensures

pub fit-requires-in-2 : goal.fit-requires-in-2
fit-requires-in-2 c = let a = c.args in few a.set a.samples.now a.classes.now c.requires.samples_len c.requires.samples_len_bound c.count_named-n.ensures

pub returns-in-2 : goal.returns-in-2
unfolding rot_zoom_from
returns-in-2 c = let a = c.args in
    let count = counted a.set a.samples.now a.classes.now c.requires.samples_len c.count_named-n.ensures in
    rw (c.in-2.is, ← c.sums_named-in-2.ensures, ← count) c.fit-in-2.ensures

pub fit-requires-in_default : goal.fit-requires-in_default
fit-requires-in_default c = let a = c.args in few a.set a.samples.now a.classes.now c.requires.samples_len c.requires.samples_len_bound c.count_named-n.ensures

pub returns-in_default : goal.returns-in_default
unfolding affine_from
returns-in_default c = let a = c.args in
    let count = counted a.set a.samples.now a.classes.now c.requires.samples_len c.count_named-n.ensures in
    let not-one : (a.kind ≡ 1 → ⊥) = search rules in
    let not-two : (a.kind ≡ 2 → ⊥) = search rules in
    rw (ne_eqb _ _ not-one, ne_eqb _ _ not-two, ← c.sums_named-in_default.ensures, ← count) c.fit-in_default.ensures
