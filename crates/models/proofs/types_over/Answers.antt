-- `types_over`: a type that is over stands at some place. Assumes nothing.
use mathlib.Core.Path.{sym, ◌∙◌}
use lib.Dec.{ltb}
use Rattle.std.proofs.Common.{rules, tests}
use Rattle.std.proofs.lemmas.Iterator.{YieldsList-from_slice}
use Rattle.std.proofs.lemmas.Iterator.Search.{any_from_yields_List}
use Rattle.models.specs.Models.{types_over}
use Rattle.models.proofs.Below.{any-listed}
use Rattle.models.proofs.types_over.Goals as goal

pub returns : goal.returns
unfolding types_over
returns c =
    any_from_yields_List (ltb 3) _ _ _ c.any.ensures.ran (YieldsList-from_slice c.args.types.now cc) (λ x b q. search (rules, tests))
    ∙ sym (any-listed (ltb 3) c.args.types.now)
