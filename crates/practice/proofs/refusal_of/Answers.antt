-- `refusal_of`: the first row that holds; row 1 passed over, the sides are small.
-- Assumes nothing.
use mathlib.Core.Path.{sym, ◌∙◌}
use mir.Facts.{to_z-of_z}
use Rattle.search.proofs.Rows.{small}
use Rattle.practice.specs.Call.{refusal}
use Rattle.practice.proofs.refusal_of.Goals as goal

pub returns-then-large : goal.returns-then-large
unfolding refusal
returns-then-large c = rw (sym c.too_large-large.ensures ∙ c.if-large.true)

pub too_short-short-requires : goal.too_short-short-requires
too_short-short-requires c = let s = c.args.sides in
    small s.width s.height (sym c.too_large-large.ensures ∙ c.if-large.false)

pub returns-then-far : goal.returns-then-far
unfolding refusal
returns-then-far c = let s = c in
    let far = rw (to_z-of_z s.ranges.dy, to_z-of_z s.ranges.dx) at c.too_far-far.ensures in
    rw (sym c.too_large-large.ensures ∙ c.if-large.false, sym far ∙ c.if-far.true)

pub returns-then-short : goal.returns-then-short
unfolding refusal
returns-then-short c = let s = c in
    let far = rw (to_z-of_z s.ranges.dy, to_z-of_z s.ranges.dx) at c.too_far-far.ensures in
    rw (
      sym c.too_large-large.ensures ∙ c.if-large.false,
      sym far ∙ c.if-far.false,
      sym c.too_short-short.ensures ∙ c.if-short.true,
    )

pub returns : goal.returns
unfolding refusal
returns c = let s = c in
    let far = rw (to_z-of_z s.ranges.dy, to_z-of_z s.ranges.dx) at c.too_far-far.ensures in
    rw (
      sym c.too_large-large.ensures ∙ c.if-large.false,
      sym far ∙ c.if-far.false,
      sym c.too_short-short.ensures ∙ c.if-short.false,
    )
