-- `median::all_finite`: the chain asks each number.
-- Assumes nothing.
use Rattle.std.proofs.Common.{rules, ◌∙◌}
use Rattle.std.specs.Float.{float_is_finite}
use Rattle.std.proofs.lemmas.Iterator.{YieldsList-from_slice}
use Rattle.std.proofs.lemmas.Iterator.Search.{all_from_yields_List}
use borrow.Author.Tests.{tests}
use Rattle.median.proofs.Counting.{finite-all}
use Rattle.median.proofs.all_finite.Goals as goal

pub returns : goal.returns
returns c =
    all_from_yields_List float_is_finite _ _ c.all.result c.all.ensures.ran (YieldsList-from_slice c.args.values.now cc) (λ x b q k. search (rules, tests)) ∙ finite-all c.args.values.now
