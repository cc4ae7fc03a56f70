-- `job_model::on_grid`: the trim code chooses the way, as in the definition.
-- Assumes nothing.
use mathlib.Core.Bool.{Bool}
use mathlib.Core.Path.{ap, ◌∙◌}
use borrow.Author.Tests.{eq-eqb, ne_eqb}
use lib.Dec.{eqb}
use Rattle.laws.specs.Refusal.{either}
use Rattle.job_model.proofs.on_grid.Goals as goal

pub trimmed-requires : goal.trimmed-requires
trimmed-requires c = let s = c.args.settings in
    record { asking = c.requires; trimming = ap (λ (b : Bool). either b (eqb s.trim 1)) c.requires.asks ∙ eq-eqb s.trim 1 c.if-settings-eq1.true }

pub returns-then-settings-eq1 : goal.returns-then-settings-eq1
returns-then-settings-eq1 c = c.trimmed.ensures

pub untrimmed-requires : goal.untrimmed-requires
untrimmed-requires c = let s = c.args.settings in
    record { asking = c.requires; trimming = ap (λ (b : Bool). either b (eqb s.trim 1)) c.requires.asks ∙ ne_eqb s.trim 1 c.if-settings-eq1.false }

pub returns : goal.returns
returns c = c.untrimmed.ensures
