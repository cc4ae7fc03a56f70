-- `class_set::count_named`: as many pass the filter as are chosen. Assumes nothing.
use Rattle.std.proofs.Common.{◌≡◌, ◌∙◌, rules}
use Rattle.std.specs.List.{count_by}
use Rattle.class_set.specs.Set.{names}
use Rattle.class_set.proofs.Chosen.{count-is}
use Rattle.class_set.proofs.count_named.Goals as goal

pub returns : goal.returns
returns c = let counted : c.count.result ≡ count_by (names c.args.set) c.args.classes.now = search rules in
    counted ∙ count-is c.args.set c.args.classes.now
