-- `half_refusal`: the first row that holds; row 1 passed over, the sides are small.
-- Assumes nothing.
use Prim.Native.Nat.{◌*◌, ◌/◌}
use mathlib.Core.Path.{sym, ◌∙◌}
use native.Mathlib.Omega.{arith}
use borrow.Author.Tests.{eq-eqb, ne_eqb, lt-ltb, le-ltb}
use Rattle.plane.proofs.Clamped.{plane-small}
use Rattle.search.proofs.Rows.{small, half-small}
use Rattle.band.specs.Call.{half_refusal}
use Rattle.band.proofs.half_refusal.Goals as goal

pub returns-then-too_large : goal.returns-then-too_large
unfolding half_refusal
returns-then-too_large c = rw (sym c.too_large.ensures ∙ c.if-too_large.true)

pub overflow_mul-sides : goal.overflow_mul-sides
overflow_mul-sides c = let s = c.args.sides in
    let k = small s.width s.height (sym c.too_large.ensures ∙ c.if-too_large.false) in
    omega (arith, plane-small s.width s.height k.narrow k.low)

pub returns-then-pels-sides : goal.returns-then-pels-sides
unfolding half_refusal
returns-then-pels-sides c = let a = c.args in
    rw (sym c.too_large.ensures ∙ c.if-too_large.false, ne_eqb a.pels (a.sides.height * a.sides.width) c.if-pels-sides.true)

pub overflow_mul-sides-2 : goal.overflow_mul-sides-2
overflow_mul-sides-2 c = let s = c.args.sides in
    let k = small s.width s.height (sym c.too_large.ensures ∙ c.if-too_large.false) in
    omega (arith, half-small s.width s.height k.narrow k.low)

pub returns-then-room-sides : goal.returns-then-room-sides
unfolding half_refusal
returns-then-room-sides c = let a = c.args in
    rw (
      sym c.too_large.ensures ∙ c.if-too_large.false,
      eq-eqb a.pels (a.sides.height * a.sides.width) c.if-pels-sides.false,
      lt-ltb a.room (a.sides.height / 2 * (a.sides.width / 2)) c.if-room-sides.true,
    )

pub returns : goal.returns
unfolding half_refusal
returns c = let a = c.args in
    rw (
      sym c.too_large.ensures ∙ c.if-too_large.false,
      eq-eqb a.pels (a.sides.height * a.sides.width) c.if-pels-sides.false,
      le-ltb a.room (a.sides.height / 2 * (a.sides.width / 2)) c.if-room-sides.false,
    )
