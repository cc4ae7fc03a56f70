-- `six_filled`: each type's numbers at their slots, by the tests.
-- Assumes nothing.
use mathlib.Core.Path.{ap, ◌∙◌}
use borrow.Author.Tests.{ne_eqb}
use lib.IntN.{pos, neg_ℤ}
use lib.ListN.{get_or}
use mir.Syntax.{w32}
use Rattle.laws.proofs.Signed.{result-reads}
use Rattle.header.specs.Reading.{six_filled}
use Rattle.models.specs.Models.{filler}
use Rattle.header_read.proofs.six_filled.Goals as goal

pub returns-then-gm_type-eq-IDENTITY : goal.returns-then-gm_type-eq-IDENTITY
unfolding six_filled filler
returns-then-gm_type-eq-IDENTITY c = rw c.if-gm_type-eq-IDENTITY.true

pub returns-then-gm_type-eq-TRANSLATION : goal.returns-then-gm_type-eq-TRANSLATION
unfolding six_filled filler
returns-then-gm_type-eq-TRANSLATION c = let a = c.args in
    rw (c.if-gm_type-eq-TRANSLATION.true, result-reads w32 (get_or a.values 0 (pos 0)) c.result-1.given, result-reads w32 (get_or a.values 1 (pos 0)) c.result-then-gm_type-eq-TRANSLATION-1.given)

pub opposite-turned-requires : goal.opposite-turned-requires
opposite-turned-requires c = rw (result-reads w32 (get_or c.args.values 1 (pos 0)) c.opposite-arg-1.given) (c.requires 1)

pub returns-then-gm_type-eq-ROTZOOM : goal.returns-then-gm_type-eq-ROTZOOM
unfolding six_filled filler
returns-then-gm_type-eq-ROTZOOM c = let a = c.args in
    let o = c.opposite-turned in
    rw (
      c.if-gm_type-eq-ROTZOOM.true,
      result-reads w32 (get_or a.values 2 (pos 0)) c.result-then-gm_type-eq-ROTZOOM-1.given,
      result-reads w32 (get_or a.values 3 (pos 0)) c.result-then-gm_type-eq-ROTZOOM-2-1.given,
      result-reads w32 (get_or a.values 0 (pos 0)) c.result-then-gm_type-eq-ROTZOOM-3-1.given,
      result-reads w32 (get_or a.values 1 (pos 0)) c.result-then-gm_type-eq-ROTZOOM-4-1.given,
      result-reads w32 o.result o.type_inv,
      o.ensures ∙ ap neg_ℤ (result-reads w32 (get_or a.values 1 (pos 0)) c.opposite-arg-1.given),
    )

pub returns : goal.returns
unfolding six_filled filler
returns c = let a = c.args in
    rw (
      ne_eqb _ _ c.if-gm_type-eq-IDENTITY.false,
      ne_eqb _ _ c.if-gm_type-eq-TRANSLATION.false,
      ne_eqb _ _ c.if-gm_type-eq-ROTZOOM.false,
      result-reads w32 (get_or a.values 4 (pos 0)) c.result-2-1.given,
      result-reads w32 (get_or a.values 5 (pos 0)) c.result-3-1.given,
      result-reads w32 (get_or a.values 0 (pos 0)) c.result-4-1.given,
      result-reads w32 (get_or a.values 1 (pos 0)) c.result-5-1.given,
      result-reads w32 (get_or a.values 2 (pos 0)) c.result-6-1.given,
      result-reads w32 (get_or a.values 3 (pos 0)) c.result-7-1.given,
    )
