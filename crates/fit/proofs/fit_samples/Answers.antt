-- `fit::fit_samples`: the sums are the definition's, and the fit is theirs.
-- Assumes nothing.
use borrow.Author.Rules.{rules}
use borrow.Author.Tests.{ne_eqb}
use mathlib.Core.Path.{◌≡◌}
use Rattle.fit.specs.Fitted.{translation_from, rot_zoom_from, affine_from}
use Rattle.fit.proofs.fit_samples.Goals as goal

pub returns-in-1 : goal.returns-in-1
unfolding translation_from
returns-in-1 c = rw (c.in-1.is, ← c.sums_over.ensures) c.fit.ensures

pub returns-in-2 : goal.returns-in-2
unfolding rot_zoom_from
returns-in-2 c = rw (c.in-2.is, ← c.sums_over-in-2.ensures) c.fit-in-2.ensures

pub returns-in_default : goal.returns-in_default
unfolding affine_from
returns-in_default c = let not-one : (c.args.gm_type ≡ 1 → ⊥) = search rules in
    let not-two : (c.args.gm_type ≡ 2 → ⊥) = search rules in
    rw (ne_eqb _ _ not-one, ne_eqb _ _ not-two, ← c.sums_over-in_default.ensures) c.fit-in_default.ensures
