-- `held_trim::fit_under`: the fits are those of the sums over the samples under the limit, which are few enough.
-- Assumes nothing.
use borrow.Author.Rules.{rules}
use borrow.Author.Tests.{ne_eqb}
use Prim.Native.Nat.{ℕ, ◌≤◌}
use mathlib.Core.Path.{◌≡◌}
use native.Mathlib.Omega.{arith}
use lib.ListN.{length}
use lib.Ieee.{Float}
use mathlib.Core.List.{List}
use Rattle.sample.specs.Word.{most_samples}
use Rattle.fit.specs.Fitted.{translation_from, rot_zoom_from, affine_from}
use Rattle.trim.specs.Inner.{Under}
use Rattle.trim.proofs.Under.{under-few}
use Rattle.held_trim.proofs.fit_under.Goals as goal

few-used : (squares : List Float) (limit : Float) (n used : ℕ) → Under squares limit n used → used ≤ most_samples
few-used squares limit n used u = omega (arith, u.counted, under-few squares limit n, u.few)

pub fit-requires : goal.fit-requires
fit-requires c = few-used c.args.squares.now c.args.limit (length c.args.samples.now) c.args.used c.requires

pub returns-in-1 : goal.returns-in-1
unfolding translation_from
returns-in-1 c = rw (c.in-1.is, ← c.sums_under.ensures, ← c.requires.counted) c.fit.ensures

pub fit-requires-in-2 : goal.fit-requires-in-2
fit-requires-in-2 c = few-used c.args.squares.now c.args.limit (length c.args.samples.now) c.args.used c.requires

pub returns-in-2 : goal.returns-in-2
unfolding rot_zoom_from
returns-in-2 c = rw (c.in-2.is, ← c.sums_under-in-2.ensures, ← c.requires.counted) c.fit-in-2.ensures

pub fit-requires-in_default : goal.fit-requires-in_default
fit-requires-in_default c = few-used c.args.squares.now c.args.limit (length c.args.samples.now) c.args.used c.requires

pub returns-in_default : goal.returns-in_default
unfolding affine_from
returns-in_default c = let not-one : (c.args.gm_type ≡ 1 → ⊥) = search rules in
    let not-two : (c.args.gm_type ≡ 2 → ⊥) = search rules in
    rw (ne_eqb _ _ not-one, ne_eqb _ _ not-two, ← c.sums_under-in_default.ensures, ← c.requires.counted) c.fit-in_default.ensures
